-- What a sink over a writer of std tells.
use Rattle.std.specs.Prelude.{ℕ, List, Option}
use Rattle.sc_outside.specs.declared.stream_sink.StreamSink.{StreamSink}
use Rattle.sc_outside.specs.Sink.{SinkTold}

-- the bytes that the writer holds, as far as it tells them
abbrev pub sink_told : {W : Type 0} → (W → Option (List ℕ)) → StreamSink W → SinkTold
sink_told contents sink = record { given = contents sink.output; faults = sink.faults }
