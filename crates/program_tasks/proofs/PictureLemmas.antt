-- What an image command did is what was due, or a refusal that leaves what it must.
use Rattle.std.proofs.Common.{◌≡◌, ℕ, ◌-◌, ◌≤◌, Bool, true, List, length, take, Option, IfSome, Result, Ok, Err, IfErr, inl, inr, refl, sym, ap, subst, ◌∙◌, arith}
use Rattle.std.specs.Result.{IsErrAnd}
use Rattle.std.specs.Io.KnownBytes.{Appends}
use Rattle.byte_streams.specs.Input.{IsReadRefusal, input_limit}
use Rattle.byte_streams.specs.declared.input.ReadError.{ReadError}
use Rattle.byte_streams.specs.declared.sink.WriteFailed.{WriteFailed}
use Rattle.command_line.specs.declared.task.PictureOptions.{PictureOptions}
use Rattle.command_line.specs.declared.task.PictureOptions.TheVariants.{Restore, Stereo, Segment}
use Rattle.pgm_image.specs.Written.{written_form}
use Rattle.cut_ways.specs.declared.solve_error.SolveError.{SolveError}
use Rattle.vision.specs.Faults.{IsWrite, LeavesWriter}
use Rattle.vision.specs.Jobs.{WritesPicture, Job, StopsAfter, Reports, picture_of}
use Rattle.vision.specs.declared.error.VisionError.{VisionError}
use Rattle.vision.specs.declared.report.Report.{Report}
use Rattle.program_texts.specs.declared.fault.Fault.{Fault}
use Rattle.program_texts.specs.declared.fault.Fault.TheVariants.{Write}
use Rattle.program_tasks.proofs.FaultKinds.{error_not_write, picture_plain, read_own}
use Rattle.program_tasks.proofs.InputLemmas.{IsWhole, of_read, of_refusal}
use Rattle.program_tasks.specs.Faults.{picture_fault}
use Rattle.program_texts.specs.Faults.{read_fault}
use Rattle.program_tasks.specs.Bounds.{near_of_bound}
use Rattle.program_tasks.specs.Pictures.{AnswersJob, AnswersPicture, HasPictureError, HasPictureFault, IsPictureJob, asks_bound, parts_at, report_parts, tells_labels}
use Rattle.program_texts.specs.Lines.{picture_lines}
use Rattle.program_tasks.specs.Refusals.{Refuses, is_write}
use Rattle.program_texts.specs.Writing.{IsCut, Writes}
use Rattle.byte_streams.specs.Streams.{Stream}
use Rattle.program_tasks.specs.Inputs.{OfSomeInput}

-- these bytes, which are not too many, are the input, where it is source
abbrev pub IsInput : List ℕ → Stream → Type 0
IsInput bytes source = IsWhole bytes source × (length bytes ≤ input_limit)

abbrev pub Due : PictureOptions → Stream → List ℕ → List ℕ → Type 0
Due o source text said = OfSomeInput source (λ input. AnswersPicture o input text said)

abbrev pub Fault_of : (SolveError → Type 0) → PictureOptions → Stream → Fault → Type 0
Fault_of cut o source fault = OfSomeInput source (λ input. HasPictureFault cut o input fault)

due : (o : PictureOptions) (bytes text said : List ℕ) (source : Stream) (job : Job)
    → IsInput bytes source → IsPictureJob o bytes job → AnswersJob (tells_labels o) job text said → Due o source text said
due o bytes text said source job is of answers =
    of_read source bytes (λ input. AnswersPicture o input text said) is.0 (is.1, (job, of, answers))

parts_same : (job : Job) (labels : List ℕ) (settled : Bool) (report : Report) → Reports job labels settled report
    → report_parts report ≡ parts_at job labels
parts_same job labels settled report told = rw (told.energy_is, told.data_is, told.smooth_is, told.label_is) refl

-- the job asks for a bound where the options do
same_bound : (o : PictureOptions) (bytes : List ℕ) (job : Job) → IsPictureJob o bytes job → asks_bound o ≡ job.bound
same_bound (Restore o) bytes job is = sym (ap (λ (j : Job). j.bound) is.3)
same_bound (Stereo o) bytes job is = sym (ap (λ (j : Job). j.bound) is.4)
same_bound (Segment o) bytes job is = sym (ap (λ (j : Job). j.bound) is.5)

-- the picture was written whole
pub wrote : (o : PictureOptions) (tells asked : Bool) (bytes said : List ℕ) (source old new : Stream) (report : Report)
    → tells ≡ tells_labels o → asked ≡ asks_bound o
    → IsInput bytes source
    → (job : Job) × IsPictureJob o bytes job × WritesPicture job old new report
    → said ≡ picture_lines tells asked (report_parts report) (near_of_bound report.bound)
    → Writes (Due o source) old new said
wrote o tells asked bytes said source old new report labels_are bound_is is (job, of, does) line =
    let parts = parts_same job does.labels does.ends.settled report does.tells in
    let bound = bound_is ∙ same_bound o bytes job of in
    let says : said ≡ picture_lines (tells_labels o) job.bound (parts_at job does.labels) (near_of_bound report.bound) =
    line ∙ (λ i. picture_lines (labels_are i) (bound i) (parts i) (near_of_bound report.bound)) in (
      written_form (picture_of job does.labels),
      due o bytes (written_form (picture_of job does.labels)) said source job is of
          (record {
            labels = does.labels;
            ends = does.ends;
            bound = report.bound;
            near = does.tells.bound_is;
            is = refl;
            says = says;
          }),
      does.took,
    )

-- the sink failed within it
stopped : (o : PictureOptions) (bytes : List ℕ) (source old new : Stream) (stop : WriteFailed) (fault : Fault) (job : Job)
    → IsInput bytes source → IsPictureJob o bytes job → StopsAfter job old new stop.count → fault ≡ Write stop
    → IsCut (Due o source) old new fault
stopped o bytes source old new stop fault job is of stops tells =
    let text = written_form (picture_of job stops.labels) in
    let said = picture_lines (tells_labels o) job.bound (parts_at job stops.labels) (near_of_bound stops.report.bound) in (
      text,
      said,
      due o bytes text said source job is of
          (record {
            labels = stops.labels;
            ends = stops.ends;
            bound = stops.report.bound;
            near = stops.tells.bound_is;
            is = refl;
            says = refl;
          }),
      (stop, tells, stops.took),
    )

-- a refusal of the command leaves what it must: nothing was written, and the fault is one of the
-- input, or the sink failed
pub refuses : (cut : SolveError → Type 0) (o : PictureOptions) (bytes : List ℕ) (source old new : Stream)
    (e : VisionError) (fault : Fault) → IsInput bytes source
    → LeavesWriter (IsPictureJob o bytes) (HasPictureError cut o bytes) old new e
    → ((¬ IsWrite e) → new ≡ old) → fault ≡ picture_fault e → Refuses (Due o source) (Fault_of cut o source) old new fault
refuses cut o bytes source old new e fault is (inl has) kept tells =
    let quiet = error_not_write cut o bytes e has in
    inl (
      of_read source bytes (λ input. HasPictureFault cut o input fault) is.0 (inr (is.1, (e, has, tells))),
      ap is_write tells ∙ (picture_plain e quiet).1.0,
      kept quiet,
    )
refuses cut o bytes source old new e fault is (inr stop) kept tells =
    inr (stopped o bytes source old new stop.2.0 fault stop.0 is stop.1 stop.2.1 (tells ∙ ap picture_fault stop.2.2))

-- bytes that are those that were read are the input
pub read_whole : (bytes items : List ℕ) (source : Stream) → bytes ≡ items → IsWhole items source → length items ≤ input_limit
    → IsInput bytes source
read_whole bytes items source is whole limit = subst (λ (xs : List ℕ). IsInput xs source) (sym is) (whole, limit)

-- the input was not read
pub unread : {T : Type 0} (cut : SolveError → Type 0) (o : PictureOptions) (source sink : Stream)
    (error : ReadError) (r : Result T Fault) → IsErrAnd r (λ fault. fault ≡ read_fault error) → IfSome source.bytes (λ input. IsReadRefusal input error)
    → IfErr r (Refuses (Due o source) (Fault_of cut o source) sink sink)
unread cut o source sink error (Ok x) is read = tt
unread cut o source sink error (Err fault) is read =
    let h = of_refusal source error read in
    inl ((h.0, h.1, inl (error, h.2, is)), ap is_write is ∙ (read_own error).0, refl)
