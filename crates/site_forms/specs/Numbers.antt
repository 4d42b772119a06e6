-- The form that the numbers of a move are.
use Rattle.std.specs.Prelude.{◌≡◌, ℕ, ◌+◌, ◌*◌, ◌<◌, ◌≤◌, Bool, true, false, cond, ℤ, pos, ◌-ℤ◌}
use Rattle.std.specs.Prelude.{List, length, slice_index, unsigned_abs}
use Rattle.label_field.specs.PairLists.{IsPairList}
use Rattle.label_energies.specs.declared.change.Move.{Move}
use Rattle.label_energies.specs.Energies.{Instance, IsInstance, labelling}
use Rattle.label_energies.specs.Moves.{IsAllowed}
use Rattle.cost_store.specs.Limits.{pair_cost_limit}
use Rattle.move_energy.specs.BySite.{AreBySite, AreNeighboursOf, neighbours_start, neighbour_at}
use Rattle.move_energy.specs.BySite.{is_first, weight_at}
use Rattle.move_energy.specs.MoveValues.{move_value}
use Rattle.move_energy.specs.Assignments.{rise}
use Rattle.move_energy.specs.Ends.{decided_or, HasNoneBefore, rise_limit}
use Rattle.move_energy.specs.declared.choice.Choice.{Choice}
use Rattle.move_energy.specs.declared.rises.EndRises.{EndRises}
use Rattle.move_energy.specs.declared.rises.SiteRises.{SiteRises}
use Rattle.site_forms.specs.Forms.{Form, TellsRises}
use Rattle.site_forms.specs.Fields.{table_cost, own_at, rises_in, AreReadOf, AreCostsRead}
use Rattle.site_forms.specs.Fields.{AreRisesRead}
use Rattle.site_forms.specs.declared.numbers.SiteForm.{SiteForm}

-- the label that a site of this label gets by its value
abbrev pub label_by : SiteForm → ℕ → Bool → ℕ
label_by form old bit = cond bit (slice_index form.turns.now old) (slice_index form.stays.now old)

-- by how much a pair of this weight rises where its first end, or its second, has the one label and
-- turns, while the value of its other end, which has the other, is this bit
abbrev pub end_rise_by : SiteForm → ℕ → Bool → ℕ → ℕ → Bool → ℤ
end_rise_by form weight first own other bit =
    pos (weight * table_cost form.smooth.now first (label_by form own true)
    (label_by form other bit))
    -ℤ pos (weight * table_cost form.smooth.now first (label_by form own false)
    (label_by form other bit))

-- the same of the pair that a site has at a place
abbrev pub rise_by_labels : SiteForm → Bool → ℕ → ℕ → ℤ
rise_by_labels form bit u place =
    end_rise_by form (weight_at form.ends.now place) (is_first form.ends.now u place)
    (labelling form.at.now u) (labelling form.at.now (neighbour_at form.ends.now place)) bit

-- by how much a pair of the weight that all have rises where its first end, which has the one
-- label, gets the label of an expansion, while its other end has the other
abbrev pub expanded_rise : SiteForm → ℕ → ℕ → ℤ
expanded_rise form own other =
    pos (form.ends.now.weight * table_cost form.smooth.now true form.alpha other)
    -ℤ pos (form.ends.now.weight * table_cost form.smooth.now true own other)

-- as it is listed at the place
abbrev pub listed_rise : SiteForm → Bool → ℕ → ℤ
listed_rise form bit place =
    cond bit (rises_in form.rises.now place).high (rises_in form.rises.now place).low

-- in the one way or the other
abbrev pub rise_at_place : SiteForm → Bool → ℕ → ℕ → ℤ
rise_at_place form bit u place =
    cond form.listed (listed_rise form bit place) (rise_by_labels form bit u place)

-- what the numbers are
abbrev pub form_of : SiteForm → Form
form_of form = record {
  sites = length form.at.now;
  start = neighbours_start form.ends.now;
  head = neighbour_at form.ends.now;
  own = own_at form.own.now;
  low = rise_at_place form false;
  high = rise_at_place form true;
}

-- a place of a site
pub record IsSitePlace (form : SiteForm) (site place : ℕ) : Type 0 where
  pub inside : site < length form.at.now
  pub from : neighbours_start form.ends.now site ≤ place
  pub to : place < neighbours_start form.ends.now (site + 1)

-- the rises of an end of a pair, neither of them larger than a pair's cost
pub record AreEndRises (form : SiteForm) (weight : ℕ) (first : Bool) (own other : ℕ)
    (rises : EndRises) : Type 0 where
  pub low : rises.low ≡ end_rise_by form weight first own other false
  pub high : rises.high ≡ end_rise_by form weight first own other true
  pub low_small : unsigned_abs rises.low ≤ pair_cost_limit
  pub high_small : unsigned_abs rises.high ≤ pair_cost_limit

-- the same of the pair that a site has at a place
pub record AreRisesAt (form : SiteForm) (u place : ℕ) (rises : EndRises) : Type 0 where
  pub low : rises.low ≡ rise_at_place form false u place
  pub high : rises.high ≡ rise_at_place form true u place
  pub low_small : unsigned_abs rises.low ≤ pair_cost_limit
  pub high_small : unsigned_abs rises.high ≤ pair_cost_limit

-- in an expansion the site rises by this number at each place whose neighbour has the label
pub record IsHighRise (form : SiteForm) (u : ℕ) (high : ℤ) : Type 0 where
  pub value : form.expanding ≡ true → high ≡ expanded_rise form (labelling form.at.now u) form.alpha
  pub small : unsigned_abs high ≤ pair_cost_limit

-- this holds of each function whose rises the numbers tell
abbrev pub Tells : SiteForm → (((ℕ → Bool) → ℤ) → Type 0) → Type 0
Tells form P = (E : (ℕ → Bool) → ℤ) → TellsRises (form_of form) E → P E

-- by how much the value rises where a site turns, at least and at most, by what is known of its
-- neighbours; and whether one of them before it may be open
pub record AreSiteRises (form : SiteForm) (known : List Choice) (site : ℕ) (rises : SiteRises)
    : Type 0 where
  pub least : Tells form (λ E. rises.least ≡ rise E site (decided_or known true))
  pub greatest : Tells form (λ E. rises.greatest ≡ rise E site (decided_or known false))
  pub range : (unsigned_abs rises.least ≤ rise_limit form.ends.now site)
      × (unsigned_abs rises.greatest ≤ rise_limit form.ends.now site)
  pub alone : rises.beside ≡ false → HasNoneBefore known form.ends.now site

-- the form is of these pairs, and its neighbours are theirs by site
pub record IsOverPairs (form : SiteForm) : Type 0 where
  pub sites : length form.at.now ≡ form.pairs.now.sites
  pub list : IsPairList form.pairs.now
  pub by_site : AreBySite form.pairs.now form.ends.now

-- its numbers were read of this move, which is allowed
pub record IsFormOf (m : Instance) (move : Move) (form : SiteForm) : Type 0 where
  pub sites_are : m.sites ≡ form.pairs.now.sites
  pub pairs_are : m.pairs ≡ form.pairs.now.list
  pub instance : IsInstance m
  pub by_site : AreNeighboursOf m form.ends.now
  pub allowed : IsAllowed m move (labelling form.at.now)
  pub read : AreReadOf m move form.own.now form.at.now form.stays.now form.turns.now
  pub costs : form.listed ≡ false → AreCostsRead m move form.at.now form.smooth.now
  pub rises : form.listed ≡ true → AreRisesRead m move form.ends.now form.at.now form.rises.now

-- this holds of each move of which they were read
abbrev pub WhereRead : SiteForm → (Instance → Move → (ℕ → ℕ) → Type 0) → Type 0
WhereRead form P = (m : Instance) (move : Move) → IsFormOf m move form
    → P m move (labelling form.at.now)

-- they tell the rises of the energies of its labellings
abbrev pub FormTellsRises : Type 0
FormTellsRises = (form : SiteForm)
    → WhereRead form (λ m move f. TellsRises (form_of form) (move_value m move f))
