use Rattle.std.proofs.Common.{refl, ◌∷◌, true, false}
use Rattle.porch_walk.specs.declared.step.Turn.TheVariants as turn
use Rattle.porch_walk.specs.Walk.{name_bytes}
use Rattle.porch_walk.specs.inside.Steps.{upward}
use Rattle.porch_walk.proofs.Stages.{moved, types_more}
use Rattle.porch_walk.proofs.stage.take_word.Goals as goal

pub returns-in-Took : goal.returns-in-Took
returns-in-Took c = λ s st. record {
  next = record { types = s.types; fresh = s.fresh; inside = s.inside; pending = upward c.go_on.new.pending.items };
  same = moved turn.Took c.args.stage.now s c.args.word c.args.bytes.now c.name_bytes-heard.result.now c.contains-known.result (upward c.go_on.new.pending.items) st c.name_bytes-heard.ensures c.contains-known.ensures (rw c.in-Took.is at c.in_ok-go_on.ensures);
  stands = record { types = st.types; fresh = st.fresh; inside = st.inside; pending = refl };
}

pub returns-in-Refused : goal.returns-in-Refused
returns-in-Refused c = λ s st. moved turn.Refused c.args.stage.now s c.args.word c.args.bytes.now c.name_bytes-heard.result.now c.contains-known.result (upward c.go_on.new.pending.items) st c.name_bytes-heard.ensures c.contains-known.ensures (rw c.in-Refused.is at c.in_ok-go_on.ensures)

pub returns-in-LeftOut : goal.returns-in-LeftOut
returns-in-LeftOut c = λ s st. moved turn.LeftOut c.args.stage.now s c.args.word c.args.bytes.now c.name_bytes-heard.result.now c.contains-known.result (upward c.go_on.new.pending.items) st c.name_bytes-heard.ensures c.contains-known.ensures (rw c.in-LeftOut.is at c.in_ok-go_on.ensures)

pub returns-in-Named : goal.returns-in-Named
returns-in-Named c = λ s st. record {
  next = record { types = s.types; fresh = name_bytes c.args.word c.args.bytes.now; inside = s.inside; pending = upward c.go_on.new.pending.items };
  same = moved turn.Named c.args.stage.now s c.args.word c.args.bytes.now c.name_bytes-heard.result.now c.contains-known.result (upward c.go_on.new.pending.items) st c.name_bytes-heard.ensures c.contains-known.ensures (rw c.in-Named.is at c.in_ok-go_on.ensures);
  stands = record { types = st.types; fresh = c.name_bytes-heard.ensures; inside = st.inside; pending = refl };
}

pub returns-in_ok-insert-in-Declared : goal.returns-in_ok-insert-in-Declared
returns-in_ok-insert-in-Declared c = λ s st. record {
  next = record { types = s.fresh ∷ s.types; fresh = s.fresh; inside = s.inside; pending = upward c.go_on.new.pending.items };
  same = moved turn.Declared c.args.stage.now s c.args.word c.args.bytes.now c.name_bytes-heard.result.now c.contains-known.result (upward c.go_on.new.pending.items) st c.name_bytes-heard.ensures c.contains-known.ensures (rw c.in-Declared.is at c.in_ok-go_on.ensures);
  stands = record { types = rw (c.in_ok-insert-in-Declared.ensures.keys, ← st.fresh) (types_more c.args.stage.now.types.keys c.args.stage.now.fresh s.types st.types); fresh = st.fresh; inside = st.inside; pending = refl };
}

pub returns-in-Entered : goal.returns-in-Entered
returns-in-Entered c = λ s st. record {
  next = record { types = s.types; fresh = s.fresh; inside = true; pending = upward c.go_on.new.pending.items };
  same = moved turn.Entered c.args.stage.now s c.args.word c.args.bytes.now c.name_bytes-heard.result.now c.contains-known.result (upward c.go_on.new.pending.items) st c.name_bytes-heard.ensures c.contains-known.ensures (rw c.in-Entered.is at c.in_ok-go_on.ensures);
  stands = record { types = st.types; fresh = st.fresh; inside = refl; pending = refl };
}

pub returns-in-Left : goal.returns-in-Left
returns-in-Left c = λ s st. record {
  next = record { types = s.types; fresh = s.fresh; inside = false; pending = upward c.go_on.new.pending.items };
  same = moved turn.Left c.args.stage.now s c.args.word c.args.bytes.now c.name_bytes-heard.result.now c.contains-known.result (upward c.go_on.new.pending.items) st c.name_bytes-heard.ensures c.contains-known.ensures (rw c.in-Left.is at c.in_ok-go_on.ensures);
  stands = record { types = st.types; fresh = st.fresh; inside = refl; pending = refl };
}
