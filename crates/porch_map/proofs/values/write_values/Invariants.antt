use Rattle.std.proofs.Common.{◌≡◌, length, drop}
use Rattle.porch_map.specs.Values.{with_all}
use Rattle.porch_map.proofs.values.write_values.Given as goal

abbrev pub invariant-loop-init : goal.invariant-loop-init
invariant-loop-init l = record {
  same : with_all l.fn.metrics l.fn.globals.types.now l.fn.globals.addresses.now l.fn.at l.fn.ty l.memory (drop l.init-index l.inits)
      ≡ with_all l.fn.metrics l.fn.globals.types.now l.fn.globals.addresses.now l.fn.at l.fn.ty l.fn.memory l.inits;
  length_is : length l.memory ≡ length l.fn.memory;
}
