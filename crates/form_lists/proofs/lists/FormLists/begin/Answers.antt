use Rattle.std.proofs.lemmas.Result.{on_ok_weaker}
use Rattle.form_lists.proofs.Taking.{begun_of}
use Rattle.form_lists.proofs.lists.FormLists.begin.Goals as goal

pub returns-clause-read : goal.returns-clause-read
returns-clause-read g c =
    let a = c.args in
    on_ok_weaker c.clear.result (λ zeros m meant.
    (let read = c.in_ok-read_pairs.ensures.read m meant in
    begun_of m a.change a.ends.now a.at.now _
    (record { sites = read.sites; labels = read.labels; after = read.after; costs = read.costs; rises = read.rises }) zeros)) c.clear.ensures.zeros
