-- The streams of the process, each over a reader or a writer.
use Rattle.porch_edge.specs.declared.standard.StdSource.{StdSource}
use Rattle.porch_edge.specs.declared.standard.StdSink.{StdSink}

-- what a source reads from
abbrev pub reader_of : {R : Type 0} → StdSource R → R
reader_of source = source.inner

-- what a sink writes to
abbrev pub writer_of : {W : Type 0} → StdSink W → W
writer_of sink = sink.inner
