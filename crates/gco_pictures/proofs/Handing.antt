-- A picture at the front of a buffer.
use Rattle.std.proofs.Common.{◌≡◌, ℕ, List, [], ◌++◌, Some, length, drop, ◌∙◌, ap}
use Rattle.std.proofs.Math.Seq.{drop-append_seam, take-append_seam}
use Rattle.byte_streams.specs.Streams.{Stream}
use Rattle.pgm_image.specs.Written.{written_form}
use Rattle.vision.specs.Jobs.{Job, WritesPicture, picture_of}
use Rattle.vision.specs.declared.report.Report.{Report}
use Rattle.gco_pictures.specs.Answers.{IsHandedOver, IsPictureMade, report_told}
use Rattle.gco_pictures.specs.declared.told.GcoPictureTold.{GcoPictureTold}

pub put_in_front : (bytes out : List ℕ) (report : Report) (told : GcoPictureTold) → told ≡ report_told report (length bytes)
    → IsHandedOver bytes report out (bytes ++ drop (length bytes) out) told
put_in_front bytes out report told is = record {
  front = take-append_seam bytes (drop (length bytes) out);
  rest = drop-append_seam bytes (drop (length bytes) out);
  told_is = is;
}

-- the stream of bytes that are held in memory
abbrev pub held_stream : List ℕ → ℕ → Stream
held_stream bytes failures = record { bytes = Some bytes; failures = failures }

-- a picture that was written to an empty place
pub picture_made : (IsJob : Job → Type 0) (old bytes : List ℕ) (before after : ℕ) (report : Report) → old ≡ []
    → ((job : Job) × IsJob job × WritesPicture job (held_stream old before) (held_stream bytes after) report)
    → IsPictureMade IsJob bytes report
picture_made IsJob old bytes before after report empty done = record {
  job = done.0;
  is_job = done.1;
  labels = done.2.labels;
  ends = done.2.ends;
  bytes_are = done.2.took.0 ∙ ap (λ (xs : List ℕ). xs ++ written_form (picture_of done.0 done.2.labels)) empty;
  tells = done.2.tells;
}
