-- What a job makes, and its error, as those of the input that names it.
use Rattle.std.proofs.Common.{ℕ, ◌≤◌, List, Result, Ok, Err, MatchResult, IfOk, IfErr, inr, refl}
use Rattle.cut_ways.specs.declared.solve_error.SolveError.{SolveError}
use Rattle.pgm_image.specs.Picture.{Picture}
use Rattle.run_options.specs.declared.options.RestoreOptions.{RestoreOptions}
use Rattle.run_options.specs.declared.options.StereoOptions.{StereoOptions}
use Rattle.run_options.specs.declared.options.SegmentOptions.{SegmentOptions}
use Rattle.vision.specs.Faults.{HasRunError, HasRestoreError, HasStereoError, HasSegmentError}
use Rattle.vision.specs.Inputs.{HoldsPicture, HoldsTwo, SameSizes, AreSeeds, IsRestoreJob, IsStereoJob, IsSegmentJob}
use Rattle.vision.specs.Jobs.{Job, IsReadyToWrite, restore_job, stereo_job, segment_job}
use Rattle.vision.specs.declared.error.VisionError.{VisionError}
use Rattle.vision.specs.declared.job.Finished.{Finished}

module _ (refuses : SolveError → Type 0) where
  pub restore_refused : (o : RestoreOptions) (input : List ℕ) (p : Picture) (r : Result Finished VisionError) → HoldsPicture input p → p.maxval ≤ 255
      → MatchResult r (IsReadyToWrite (restore_job o p)) (HasRunError refuses (restore_job o p)) → IfErr r (HasRestoreError refuses o input)
  restore_refused o input p (Ok f) held levels h = tt
  restore_refused o input p (Err e) held levels h = inr (inr (restore_job o p, (p, held, levels, refl), h))

  pub stereo_refused : (o : StereoOptions) (input : List ℕ) (a b : Picture) (r : Result Finished VisionError) → HoldsTwo input a b → SameSizes a b
      → MatchResult r (IsReadyToWrite (stereo_job o a b)) (HasRunError refuses (stereo_job o a b)) → IfErr r (HasStereoError refuses o input)
  stereo_refused o input a b (Ok f) held sizes h = tt
  stereo_refused o input a b (Err e) held sizes h = inr (stereo_job o a b, (a, b, held, sizes, refl), h)

  pub segment_refused : (o : SegmentOptions) (input : List ℕ) (p seeds : Picture) (r : Result Finished VisionError) → HoldsTwo input p seeds → SameSizes p seeds
      → AreSeeds seeds → MatchResult r (IsReadyToWrite (segment_job o p seeds)) (HasRunError refuses (segment_job o p seeds)) → IfErr r (HasSegmentError refuses o input)
  segment_refused o input p seeds (Ok f) held sizes marks h = tt
  segment_refused o input p seeds (Err e) held sizes marks h = inr (inr (segment_job o p seeds, (p, seeds, held, sizes, marks, refl), h))

  pub restore_finished : (o : RestoreOptions) (input : List ℕ) (p : Picture) (r : Result Finished VisionError) → HoldsPicture input p → p.maxval ≤ 255
      → MatchResult r (IsReadyToWrite (restore_job o p)) (HasRunError refuses (restore_job o p)) → IfOk r (λ (f : Finished). (job : Job) × IsRestoreJob o input job × IsReadyToWrite job f)
  restore_finished o input p (Ok f) held levels h = (restore_job o p, (p, held, levels, refl), h)
  restore_finished o input p (Err e) held levels h = tt

  pub stereo_finished : (o : StereoOptions) (input : List ℕ) (a b : Picture) (r : Result Finished VisionError) → HoldsTwo input a b → SameSizes a b
      → MatchResult r (IsReadyToWrite (stereo_job o a b)) (HasRunError refuses (stereo_job o a b)) → IfOk r (λ (f : Finished). (job : Job) × IsStereoJob o input job × IsReadyToWrite job f)
  stereo_finished o input a b (Ok f) held sizes h = (stereo_job o a b, (a, b, held, sizes, refl), h)
  stereo_finished o input a b (Err e) held sizes h = tt

  pub segment_finished : (o : SegmentOptions) (input : List ℕ) (p seeds : Picture) (r : Result Finished VisionError) → HoldsTwo input p seeds → SameSizes p seeds → AreSeeds seeds
      → MatchResult r (IsReadyToWrite (segment_job o p seeds)) (HasRunError refuses (segment_job o p seeds)) → IfOk r (λ (f : Finished). (job : Job) × IsSegmentJob o input job × IsReadyToWrite job f)
  segment_finished o input p seeds (Ok f) held sizes marks h = (segment_job o p seeds, (p, seeds, held, sizes, marks, refl), h)
  segment_finished o input p seeds (Err e) held sizes marks h = tt
