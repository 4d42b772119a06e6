use Rattle.site_forms.proofs.Told.{told_falls, told_value}
use Rattle.site_forms.proofs.Moving.{form_tells, places_fall, form_difference}
use Rattle.site_forms.proofs.laws.form_laws.Goals as goal

pub returns : goal.returns
returns c = record { tells = form_tells; places = places_fall; submodular = told_falls; value = told_value; difference = form_difference }
