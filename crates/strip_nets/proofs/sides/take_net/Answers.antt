use Rattle.std.proofs.Common.{◌∙◌, map, ap}
use Rattle.sink_distances.specs.declared.laid.Laid.{Laid}
use Rattle.compile_cut.specs.Weights.{source_part, sink_part}
use Rattle.strip_nets.proofs.RowSides.{net_same, row_laid}
use Rattle.strip_nets.proofs.sides.take_net.Goals as goal

pub returns-clause-net : goal.returns-clause-net
returns-clause-net c =
    let laid : Laid = record { starts = c.replace.result; ends = c.replace-2.result; cells = c.replace-3.result; firsts = c.replace-4.result; sources = c.in_ok-sources.sources; sinks = c.in_ok-sinks.sinks } in
    net_same c.args.form.now laid (c.in_ok-sources.ensures ∙ ap (map source_part) c.as_slice.ensures.value) (c.in_ok-sinks.ensures ∙ ap (map sink_part) c.as_slice-2.ensures.value)
    c.replace-3.ensures.value c.replace-4.ensures.value

pub returns-clause-laid : goal.returns-clause-laid
returns-clause-laid c =
    let laid : Laid = record { starts = c.replace.result; ends = c.replace-2.result; cells = c.replace-3.result; firsts = c.replace-4.result; sources = c.in_ok-sources.sources; sinks = c.in_ok-sinks.sinks } in
    let h = c.requires.laid in
    row_laid h.0 h.1 c.args.form.now laid h.2 c.replace.ensures.value c.replace-2.ensures.value c.replace-3.ensures.value c.replace-4.ensures.value
    (net_same c.args.form.now laid (c.in_ok-sources.ensures ∙ ap (map source_part) c.as_slice.ensures.value) (c.in_ok-sinks.ensures ∙ ap (map sink_part) c.as_slice-2.ensures.value)
    c.replace-3.ensures.value c.replace-4.ensures.value)
