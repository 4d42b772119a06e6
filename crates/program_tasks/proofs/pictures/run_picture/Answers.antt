use Rattle.program_tasks.proofs.pictures.run_picture.Goals as goal

pub returns-in-Segment-clause-refused : goal.returns-in-Segment-clause-refused
returns-in-Segment-clause-refused g c = rw c.in-Segment.is c.run_segment.ensures.refused
