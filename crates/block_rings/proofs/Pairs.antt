-- Two rows of a list get an item more each.
use Rattle.std.proofs.Common.{◌≡◌, ℕ, ◌<◌, List, [], ◌∷◌, ◌++◌, length, map, set, get_or, sym, ◌∙◌, ap, arith}
use Rattle.std.proofs.lemmas.List.{map-set, get_or-map, get_or-set_other}

pub two_more : {R X : Type 0} (items : R → List X) (rows : List R) (b c : ℕ) (row_b row_b' row_c row_c' : R) (p q : X) → b < c → c < length rows
    → row_b ≡ get_or rows b row_b → items row_b' ≡ items row_b ++ p ∷ [] → row_c ≡ get_or (set rows b row_b') c row_c → items row_c' ≡ items row_c ++ q ∷ []
    → map items (set (set rows b row_b') c row_c') ≡ set (set (map items rows) b (get_or (map items rows) b [] ++ p ∷ [])) c (get_or (map items rows) c [] ++ q ∷ [])
two_more items rows b c row_b row_b' row_c row_c' p q order low read_b made_b read_c made_c =
    let old = map items rows in
    let at_b : items row_b ≡ get_or old b [] = ap items read_b ∙ sym (get_or-map items rows b row_b [] (omega (arith, order, low))) in
    let at_c : items row_c ≡ get_or old c [] =
    ap items (read_c ∙ get_or-set_other rows b c row_b' row_c (omega (arith, order))) ∙ sym (get_or-map items rows c row_c [] low) in
    let new_b : items row_b' ≡ get_or old b [] ++ p ∷ [] = made_b ∙ ap (λ l. l ++ p ∷ []) at_b in
    let new_c : items row_c' ≡ get_or old c [] ++ q ∷ [] = made_c ∙ ap (λ l. l ++ q ∷ []) at_c in
    map-set items (set rows b row_b') c row_c'
    ∙ (ap (λ x. set x c (items row_c')) (map-set items rows b row_b')
    ∙ (ap (λ y. set (set old b y) c (items row_c')) new_b ∙ ap (λ y. set (set old b (get_or old b [] ++ p ∷ [])) c y) new_c))
