-- The lines and the text that tell an energy of labels, and how near it is to the least.
use Rattle.std.specs.Prelude.{ℕ, Bool, true, false, List, [], ◌++◌, Option, Some, None, codes}
use Rattle.std.specs.Prelude.{decimal}
use Rattle.std.specs.List.{flat_map}
use Rattle.program_texts.specs.declared.lines.Near.{Near}
use Rattle.program_texts.specs.declared.lines.EnergyParts.{EnergyParts}

-- what the labels that some site has cost by themselves, where it is to be told
abbrev pub label_words : Bool → ℕ → List ℕ
label_words false labels = []
label_words true labels = codes " label " ++ decimal labels

-- the energy and its parts: what the labels cost the sites, the pairs of sites, and by themselves
abbrev pub energy_words : Bool → EnergyParts → List ℕ
energy_words tells parts =
    codes "energy " ++ decimal parts.energy ++ codes " data " ++ decimal parts.«data»
    ++ codes " smooth " ++ decimal parts.smooth ++ label_words tells parts.label

-- how near the energy is to the least, where it is known: the first number times it is at most the
-- second times that of any labelling
abbrev pub near_words : Option Near → List ℕ
near_words None = codes "none"
near_words (Some near) = decimal near.first ++ codes " " ++ decimal near.second

-- the line of it, where it is asked for
abbrev pub bound_line : Bool → Option Near → List ℕ
bound_line false near = []
bound_line true near = codes "bound " ++ near_words near ++ codes "\n"

-- the line of an energy and its parts, and that of how near it is where that is asked for
abbrev pub picture_lines : Bool → Bool → EnergyParts → Option Near → List ℕ
picture_lines tells asked parts near =
    energy_words tells parts ++ codes "\n" ++ bound_line asked near

-- a blank and the number of each label, in the order of the sites
abbrev pub numbers_text : List ℕ → List ℕ
numbers_text labels = flat_map (λ label. codes " " ++ decimal label) labels

-- the energy with its parts, the label of each site, and how near the energy is where that is asked
-- for
abbrev pub label_text : Bool → Bool → EnergyParts → List ℕ → Option Near → List ℕ
label_text tells asked parts labels near =
    energy_words tells parts ++ codes "\nlabels"
    ++ numbers_text labels ++ codes "\n"
    ++ bound_line asked near
