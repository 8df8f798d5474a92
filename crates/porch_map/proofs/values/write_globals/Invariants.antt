use Rattle.std.proofs.Common.{◌≡◌, length, drop}
use Rattle.porch_map.specs.Values.{with_values}
use Rattle.porch_map.proofs.values.write_globals.Given as goal

abbrev pub invariant-loop-number : goal.invariant-loop-number
invariant-loop-number l = record {
  same : with_values l.fn.metrics l.fn.globals.types.now l.fn.globals.addresses.now l.number l.memory (drop l.number l.objects)
      ≡ with_values l.fn.metrics l.fn.globals.types.now l.fn.globals.addresses.now 0 l.fn.memory l.objects;
  length_is : length l.memory ≡ length l.fn.memory;
}
