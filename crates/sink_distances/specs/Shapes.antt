-- The net of an outline.
use Rattle.flow_network.specs.Cut.{Network, with_larger_sinks}
use Rattle.sink_distances.specs.declared.outline.Shape.{Shape}
use Rattle.sink_distances.specs.declared.outline.Shape.TheVariants.{Listed, Standing, Wider}
use Rattle.sink_distances.specs.Laid.{laid_net}

-- the net that is told by a list of arcs, or by rows, sources and sinks
abbrev pub shape_net : Shape → Network
shape_net (Listed net) = net.value
shape_net (Standing laid) = laid_net laid.value
shape_net (Wider laid more) = with_larger_sinks (laid_net laid.value) more.value.items
