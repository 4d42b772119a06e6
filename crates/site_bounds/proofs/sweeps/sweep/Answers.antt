use Rattle.std.proofs.Common.{◌∙◌, sym}
use Rattle.site_bounds.proofs.sweeps.sweep.Goals as goal

pub returns : goal.returns
returns c =
    let up = c.sweep_up.ensures in
    let down = c.sweep_down.ensures in
    record {
      count = down.count ∙ up.count;
      outside = λ p off. down.outside p off ∙ up.outside p off;
      kept = λ p closed. down.kept p (λ opened. closed (sym (up.kept p closed) ∙ opened)) ∙ up.kept p closed;
      passed = λ m move told was. down.passed m move told (up.passed m move told was);
      tried = λ m move p b told was from to test now.
          let told_up = up.tried m move p b told was from to test in
          told_up (sym (down.kept p told_up) ∙ now);
    }
