-- The last ports of two lists, as they are popped.
use Rattle.std.proofs.Common.{◌≡◌, ℕ, ◌+◌, ◌<◌, List, [], ◌∷◌, ◌++◌, length, map, set, get_or, Option, Some, None, sym, ◌∙◌, ap, subst, arith}
use Rattle.std.specs.Option.{option_to_list}
use Rattle.std.proofs.lemmas.List.{map-set, get_or-map, get_or-set_other}
use Rattle.block_workers.specs.declared.port.Port.{Port}
use Rattle.block_workers.specs.Ports.{other, LeadsTo}
use Rattle.block_workers.specs.Seeing.{read_at}
use Rattle.block_rings.specs.Joined.{port_to}
use Rattle.block_rings.specs.declared.pair.PortPair.{PortPair}
use Rattle.block_rings.specs.Pairing.{IsReadyToPair, IsTakenOut}
use Rattle.block_rings.proofs.Taking.{IsLast, last_port, has_some, last_mate, taken_out}

module _ {R : Type 0} (items : R → List Port) (rows : List R) (n b c count capacity : ℕ) (row row' other_row : R) (one : Option Port) (first : Port)
    (ready : IsReadyToPair n (b + 1) (map items rows) count capacity) (low : b < length rows) (long : length rows ≡ n)
    (at : row ≡ get_or rows b row) (popped : items row ≡ items row' ++ option_to_list one) (some : one ≡ Some first) (to : c ≡ other first) where
  abbrev pub lists : List (List Port)
  lists = map items rows

  row_first : get_or lists b [] ≡ items row' ++ first ∷ []
  row_first =
      get_or-map items rows b row [] low
      ∙ (sym (ap items at) ∙ (popped ∙ ap (λ (o : Option Port). items row' ++ option_to_list o) some))

  last : IsLast b lists first
  last = last_port n b count capacity lists (items row') first ready row_first

  pub lower : c < b
  lower = omega (arith, last.lower, to)

  back : port_to lists c b ≡ Some last.mate.mate
  back = ap (λ (i : ℕ). port_to lists i b) to ∙ last.mate.is

  -- the row of the other block, once the first port was popped
  module _ (at_other : other_row ≡ get_or (set rows b row') c other_row) where
    row_other : get_or lists c [] ≡ items other_row
    row_other =
        get_or-map items rows c other_row [] (omega (arith, lower, low))
        ∙ sym (ap items (at_other ∙ get_or-set_other rows b c row' other_row (λ e. omega (arith, e, lower))))

    pub other_some : 0 < length (items other_row)
    other_some = has_some (items other_row) b last.mate.mate (ap (λ (l : List Port). read_at None (λ (r : Port). Some r) l b) (sym row_other) ∙ back)

    module _ (other_row' : R) (two : Option Port) (second : Port) (popped_too : items other_row ≡ items other_row' ++ option_to_list two) (some_too : two ≡ Some second) where
      row_second : get_or lists c [] ≡ items other_row' ++ second ∷ []
      row_second = row_other ∙ (popped_too ∙ ap (λ (o : Option Port). items other_row' ++ option_to_list o) some_too)

      mated : (second ≡ last.mate.mate) × (other second ≡ b)
      mated = last_mate n b c count capacity lists (items other_row') second last.mate.mate ready row_second back

      pub leads : LeadsTo first second
      leads = subst (LeadsTo first) (sym mated.0) last.mate.there

      pub leads_back : LeadsTo second first
      leads_back = subst (λ (q : Port). LeadsTo q first) (sym mated.0) last.mate.back

      pub both_out : (p : PortPair) → p.first ≡ first → p.second ≡ second → IsTakenOut n b lists (map items (set (set rows b row') c other_row')) p
      both_out p is_first is_second =
          taken_out n b c lists (map items (set (set rows b row') c other_row')) (items row') (items other_row') p ready.mated (omega (arith, low, long))
          (row_first ∙ ap (λ (q : Port). items row' ++ q ∷ []) (sym is_first)) (row_second ∙ ap (λ (q : Port). items other_row' ++ q ∷ []) (sym is_second))
          (ap (λ (q : Port). other q) is_first ∙ sym to) (ap (λ (q : Port). other q) is_second ∙ mated.1) lower
          (map-set items (set rows b row') c other_row' ∙ ap (λ (ls : List (List Port)). set ls c (items other_row')) (map-set items rows b row'))
