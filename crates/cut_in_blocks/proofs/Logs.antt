-- The logs of a block, after one more message.
use Rattle.std.proofs.Common.{◌≡◌, ℕ, ◌<◌, Bool, cond, eqb, List, [], ◌∷◌, ◌++◌, set, get_or, refl, sym, ◌∙◌, ap, inl, inr, arith, get_or-set_same, get_or-set_other}
use Rattle.std.proofs.lemmas.List.{length-set}
use Rattle.std.proofs.lemmas.Bool.{cases_eq, eq-eqb, ne_eqb}
use Rattle.block_events.specs.declared.message.Message.{Message}
use Rattle.block_events.specs.States.{way_at, put_message}
use Rattle.block_net.specs.Whole.{table}
use Rattle.block_net.proofs.Tables.{length_table, table_at, table_is}
use Rattle.block_discharge.specs.Seen.{add_to}
use Rattle.cut_in_blocks.specs.Seats.{log_at, logs_of}

table_set : {A : Type 0} (n : ℕ) (f g : ℕ → A) (v : ℕ) (y : A) → v < n → g v ≡ y → ((i : ℕ) → i < n → (i ≡ v → ⊥) → g i ≡ f i)
    → table n g ≡ set (table n f) v y
table_set n f g v y lv here others =
    table_is n g (set (table n f) v y) (length-set (table n f) v y ∙ length_table n f) (λ i d l.
    elim (cases_eq i v) [
      | inl e ↦ rw e (get_or-set_same (table n f) v y d (omega (arith, lv, length_table n f)) ∙ sym here)
      | inr off ↦ get_or-set_other (table n f) v i y d off ∙ (table_at n f i d l ∙ sym (others i l off))
    ])

row_same : (n : ℕ) (f g : ℕ → List Message) → ((j : ℕ) → g j ≡ f j) → table n g ≡ table n f
row_same n f g each = table_is n g (table n f) (length_table n f) (λ j d lj. table_at n f j d lj ∙ sym (each j))

-- one more message on one of the ways
put_table : (n : ℕ) (F G : ℕ → ℕ → List Message) (p q : ℕ) (m : Message) → p < n → q < n → G p q ≡ F p q ++ m ∷ []
    → ((i j : ℕ) → (i ≡ p → j ≡ q → ⊥) → G i j ≡ F i j)
    → table n (λ i. table n (G i)) ≡ put_message (table n (λ i. table n (F i))) p q m
put_table n F G p q m lp lq here others =
    let ways = table n (λ i. table n (F i)) in
    let row : get_or ways p [] ≡ table n (F p) = table_at n (λ i. table n (F i)) p [] lp in
    let way : way_at ways p q ≡ F p q = ap (λ (r : List (List Message)). get_or r q []) row ∙ table_at n (F p) q [] lq in
    let made : table n (G p) ≡ set (get_or ways p []) q (way_at ways p q ++ m ∷ []) =
    table_set n (F p) (G p) q (F p q ++ m ∷ []) lq here (λ j lj off. others p j (λ e f. off f))
    ∙ (ap (λ (r : List (List Message)). set r q (F p q ++ m ∷ [])) (sym row)
    ∙ ap (λ (r : List Message). set (get_or ways p []) q (r ++ m ∷ [])) (sym way)) in
    table_set n (λ i. table n (F i)) (λ i. table n (G i)) p (set (get_or ways p []) q (way_at ways p q ++ m ∷ [])) lp made
    (λ i li off. row_same n (F i) (G i) (λ j. others i j (λ e f. off e)))

-- ---- what was put, and what was taken

pub own_row : (b : ℕ) (sent taken : ℕ → List Message) (j : ℕ) → log_at b sent taken b j ≡ sent j
own_row b sent taken j = ap (λ (t : Bool). cond t (sent j) (cond (eqb j b) (taken b) [])) (eq-eqb b b refl)

pub other_row : (b : ℕ) (sent taken : ℕ → List Message) (i j : ℕ) → (i ≡ b → ⊥) → log_at b sent taken i j ≡ cond (eqb j b) (taken i) []
other_row b sent taken i j off = ap (λ (t : Bool). cond t (sent j) (cond (eqb j b) (taken i) [])) (ne_eqb i b off)

pub own_column : (b : ℕ) (sent taken : ℕ → List Message) (i : ℕ) → (i ≡ b → ⊥) → log_at b sent taken i b ≡ taken i
own_column b sent taken i off = other_row b sent taken i b off ∙ ap (λ (t : Bool). cond t (taken i) []) (eq-eqb b b refl)

pub added : (logs : ℕ → List Message) (c : ℕ) (m : Message) → add_to logs c m c ≡ logs c ++ m ∷ []
added logs c m = ap (λ (t : Bool). cond t (logs c ++ m ∷ []) (logs c)) (eq-eqb c c refl)

pub not_added : (logs : ℕ → List Message) (c : ℕ) (m : Message) (j : ℕ) → (j ≡ c → ⊥) → add_to logs c m j ≡ logs j
not_added logs c m j off = ap (λ (t : Bool). cond t (logs j ++ m ∷ []) (logs j)) (ne_eqb j c off)

pub sent_log : (n b c : ℕ) (sent taken : ℕ → List Message) (m : Message) → b < n → c < n
    → logs_of n b (add_to sent c m) taken ≡ put_message (logs_of n b sent taken) b c m
sent_log n b c sent taken m lb lc =
    put_table n (log_at b sent taken) (log_at b (add_to sent c m) taken) b c m lb lc
    (own_row b (add_to sent c m) taken c ∙ (added sent c m ∙ ap (λ (r : List Message). r ++ m ∷ []) (sym (own_row b sent taken c))))
    (λ i j off. elim (cases_eq i b) [
      | inl e ↦ rw e (own_row b (add_to sent c m) taken j ∙ (not_added sent c m j (off e) ∙ sym (own_row b sent taken j)))
      | inr away ↦ other_row b (add_to sent c m) taken i j away ∙ sym (other_row b sent taken i j away)
    ])

pub taken_log : (n b c : ℕ) (sent taken : ℕ → List Message) (m : Message) → b < n → c < n → (c ≡ b → ⊥)
    → logs_of n b sent (add_to taken c m) ≡ put_message (logs_of n b sent taken) c b m
taken_log n b c sent taken m lb lc apart =
    put_table n (log_at b sent taken) (log_at b sent (add_to taken c m)) c b m lc lb
    (own_column b sent (add_to taken c m) c apart ∙ (added taken c m ∙ ap (λ (r : List Message). r ++ m ∷ []) (sym (own_column b sent taken c apart))))
    (λ i j off. elim (cases_eq i b) [
      | inl e ↦ rw e (own_row b sent (add_to taken c m) j ∙ sym (own_row b sent taken j))
      | inr away ↦ elim (cases_eq j b) [
        | inl f ↦ rw f (own_column b sent (add_to taken c m) i away ∙ (not_added taken c m i (λ e. off e f) ∙ sym (own_column b sent taken i away)))
        | inr beside ↦
            other_row b sent (add_to taken c m) i j away
            ∙ (ap (λ (t : Bool). cond t (add_to taken c m i) []) (ne_eqb j b beside)
            ∙ sym (other_row b sent taken i j away ∙ ap (λ (t : Bool). cond t (taken i) []) (ne_eqb j b beside)))
      ]
    ])
