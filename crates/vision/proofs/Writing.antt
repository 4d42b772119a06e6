-- From what is ready to be written to what a command did.
use Rattle.std.proofs.Common.{◌≡◌, ℕ, List, Result, Ok, Err, IfOk, IfErr, OnOk, inr, refl, sym, subst}
use Rattle.byte_streams.specs.Streams.{Stops, Stream, Takes}
use Rattle.pgm_image.specs.Picture.{Picture}
use Rattle.pgm_image.specs.Written.{StopsAsTold, written_form}
use Rattle.pgm_image.specs.declared.error.WriteError.{WriteError}
use Rattle.pgm_image.specs.declared.error.WriteError.TheVariants as write
use Rattle.vision.specs.Faults.{IsStop, IsWrite, LeavesWriter, write_error}
use Rattle.vision.specs.Jobs.{Job, WritesPicture, IsReadyToWrite, Reports}
use Rattle.vision.specs.declared.error.VisionError.{VisionError}
use Rattle.vision.specs.declared.job.Finished.{Finished}
use Rattle.vision.specs.declared.report.Report.{Report}

-- a picture that was written whole
pub does : (IsJob : Job → Type 0) (f : Finished) (old new : Stream) (r : Result Report VisionError)
    → ((job : Job) × IsJob job × IsReadyToWrite job f) → IfOk r (λ (report : Report). report ≡ f.report)
    → OnOk r (Takes old new (written_form f.image)) → IfOk r (λ (report : Report). (job : Job) × IsJob job × WritesPicture job old new report)
does IsJob f old new (Ok report) is told took = (
  is.0,
  is.1,
  record {
    labels = f.image.samples;
    ends = is.2.ends;
    took = subst (λ (p : Picture). Takes old new (written_form p)) is.2.image_is took;
    tells = subst (λ (q : Report). Reports is.0 f.image.samples is.2.ends.settled q) (sym told) is.2.tells;
  },
)
does IsJob f old new (Err e) is told took = tt

-- a picture whose writing stopped
pub leaves : (IsJob : Job → Type 0) (HasError : VisionError → Type 0) (f : Finished) (old new : Stream) (r : Result Report VisionError)
    → ((job : Job) × IsJob job × IsReadyToWrite job f) → IfErr r (IsStop (λ (count : ℕ). Stops old new (written_form f.image) count))
    → IfErr r (LeavesWriter IsJob HasError old new)
leaves IsJob HasError f old new (Ok report) is stops = tt
leaves IsJob HasError f old new (Err e) is stops =
    inr (
      is.0,
      is.1,
      (
        stops.0,
        record {
          labels = f.image.samples;
          ends = is.2.ends;
          took = subst (λ (p : Picture). Stops old new (written_form p) stops.0.count) is.2.image_is stops.1;
          report = f.report;
          tells = is.2.tells;
        },
        stops.2,
      ),
    )

-- a writing that stopped, as the library tells it
pub stop_told : (old new : Stream) (text : List ℕ) (w : WriteError) → StopsAsTold old new text w → IsStop (Stops old new text) (write_error w)
stop_told old new text (write.WriteFailed count) stops = (record { count = count }, stops, refl)

stop_is_write : (After : ℕ → Type 0) (e : VisionError) → IsStop After e → IsWrite e
stop_is_write After e stops = subst IsWrite (sym stops.2) tt

-- a writing that stopped is told as that
pub told_as_write : (After : ℕ → Type 0) (Same : Type 0) (r : Result Report VisionError) → IfErr r (IsStop After)
    → IfErr r (λ (e : VisionError). (¬ IsWrite e) → Same)
told_as_write After Same (Ok report) stops = tt
told_as_write After Same (Err e) stops = λ other. absurd (other (stop_is_write After e stops))
