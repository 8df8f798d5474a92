use Rattle.std.proofs.Common.{List, refl, sym, ap, ◌∙◌}
use Rattle.porch_objects.specs.Meaning.{without_input}
use Rattle.porch_flat.specs.declared.flat.Operand.{Operand}
use Rattle.porch_flat.specs.whole.Form as form
use Rattle.porch_flat.specs.whole.Form.{Form, form_of}
use Rattle.porch_steps.specs.declared.effect.Effect.TheVariants.{On, Count, Reach}
use Rattle.porch_steps.proofs.Steps.{performed, changed, told}
use Rattle.porch_steps.proofs.run.Run.perform.Goals as goal

pub returns-in-Move : goal.returns-in-Move
returns-in-Move c = record { done = changed c.args.flat.now (without_input c.args.widths) c.args.self.now c.perform_move.new.self _ _ _ (sym (ap form_of c.in-Move.is)) c.perform_move.ensures.done }

pub returns-in-Cast : goal.returns-in-Cast
returns-in-Cast c = record { done = told c.args.flat.now (without_input c.args.widths) c.args.self.now c.perform_cast.new.self _ _ _ (sym (ap form_of c.in-Cast.is)) c.perform_cast.ensures.done }

pub returns-in-Add : goal.returns-in-Add
returns-in-Add c = record { done = told c.args.flat.now (without_input c.args.widths) c.args.self.now c.perform_sum.new.self _ _ _ (sym (ap form_of c.in-Add.is)) c.perform_sum.ensures.done }

pub returns-in-Sub : goal.returns-in-Sub
returns-in-Sub c = record { done = told c.args.flat.now (without_input c.args.widths) c.args.self.now c.perform_subtraction.new.self _ _ _ (sym (ap form_of c.in-Sub.is)) c.perform_subtraction.ensures.done }

pub returns-in-Mul : goal.returns-in-Mul
returns-in-Mul c = record { done = told c.args.flat.now (without_input c.args.widths) c.args.self.now c.perform_operator.new.self _ _ _ (sym (ap form_of c.in-Mul.is)) c.perform_operator.ensures.done }

pub returns-in-Div : goal.returns-in-Div
returns-in-Div c = record { done = told c.args.flat.now (without_input c.args.widths) c.args.self.now c.perform_operator-in-Div.new.self _ _ _ (sym (ap form_of c.in-Div.is)) c.perform_operator-in-Div.ensures.done }

pub returns-in-Rem : goal.returns-in-Rem
returns-in-Rem c = record { done = told c.args.flat.now (without_input c.args.widths) c.args.self.now c.perform_operator-in-Rem.new.self _ _ _ (sym (ap form_of c.in-Rem.is)) c.perform_operator-in-Rem.ensures.done }

pub returns-in-And : goal.returns-in-And
returns-in-And c = record { done = told c.args.flat.now (without_input c.args.widths) c.args.self.now c.perform_operator-in-And.new.self _ _ _ (sym (ap form_of c.in-And.is)) c.perform_operator-in-And.ensures.done }

pub returns-in-Or : goal.returns-in-Or
returns-in-Or c = record { done = told c.args.flat.now (without_input c.args.widths) c.args.self.now c.perform_operator-in-Or.new.self _ _ _ (sym (ap form_of c.in-Or.is)) c.perform_operator-in-Or.ensures.done }

pub returns-in-Xor : goal.returns-in-Xor
returns-in-Xor c = record { done = told c.args.flat.now (without_input c.args.widths) c.args.self.now c.perform_operator-in-Xor.new.self _ _ _ (sym (ap form_of c.in-Xor.is)) c.perform_operator-in-Xor.ensures.done }

pub returns-in-Shl : goal.returns-in-Shl
returns-in-Shl c = record { done = told c.args.flat.now (without_input c.args.widths) c.args.self.now c.perform_operator-in-Shl.new.self _ _ _ (sym (ap form_of c.in-Shl.is)) c.perform_operator-in-Shl.ensures.done }

pub returns-in-Shr : goal.returns-in-Shr
returns-in-Shr c = record { done = told c.args.flat.now (without_input c.args.widths) c.args.self.now c.perform_operator-in-Shr.new.self _ _ _ (sym (ap form_of c.in-Shr.is)) c.perform_operator-in-Shr.ensures.done }

pub returns-in-Not : goal.returns-in-Not
returns-in-Not c = record { done = told c.args.flat.now (without_input c.args.widths) c.args.self.now c.perform_complement.new.self _ _ _ (sym (ap form_of c.in-Not.is)) c.perform_complement.ensures.done }

pub returns-in-Lt : goal.returns-in-Lt
returns-in-Lt c = record { done = changed c.args.flat.now (without_input c.args.widths) c.args.self.now c.perform_comparison.new.self _ _ _ (sym (ap form_of c.in-Lt.is)) c.perform_comparison.ensures.done }

pub returns-in-Le : goal.returns-in-Le
returns-in-Le c = record { done = changed c.args.flat.now (without_input c.args.widths) c.args.self.now c.perform_comparison-in-Le.new.self _ _ _ (sym (ap form_of c.in-Le.is)) c.perform_comparison-in-Le.ensures.done }

pub returns-in-Eq : goal.returns-in-Eq
returns-in-Eq c = record { done = changed c.args.flat.now (without_input c.args.widths) c.args.self.now c.perform_comparison-in-Eq.new.self _ _ _ (sym (ap form_of c.in-Eq.is)) c.perform_comparison-in-Eq.ensures.done }

pub returns-in-Ne : goal.returns-in-Ne
returns-in-Ne c = record { done = changed c.args.flat.now (without_input c.args.widths) c.args.self.now c.perform_comparison-in-Ne.new.self _ _ _ (sym (ap form_of c.in-Ne.is)) c.perform_comparison-in-Ne.ensures.done }

pub returns-in-Local : goal.returns-in-Local
returns-in-Local c = record { done = changed c.args.flat.now (without_input c.args.widths) c.args.self.now c.perform_subobject.new.self _ _ _ (sym (ap form_of c.in-Local.is)) c.perform_subobject.ensures.done }

pub returns-in-GlobalA : goal.returns-in-GlobalA
returns-in-GlobalA c = record { done = changed c.args.flat.now (without_input c.args.widths) c.args.self.now c.perform_subobject-in-GlobalA.new.self _ _ _ (sym (ap form_of c.in-GlobalA.is)) c.perform_subobject-in-GlobalA.ensures.done }

pub returns-in-Member : goal.returns-in-Member
returns-in-Member c = record { done = changed c.args.flat.now (without_input c.args.widths) c.args.self.now c.perform_subobject-in-Member.new.self _ _ _ (sym (ap form_of c.in-Member.is)) c.perform_subobject-in-Member.ensures.done }

pub returns-in-Step : goal.returns-in-Step
returns-in-Step c = record { done = changed c.args.flat.now (without_input c.args.widths) c.args.self.now c.perform_step.new.self _ _ _ (sym (ap form_of c.in-Step.is)) c.perform_step.ensures.done }

pub returns-in-Back : goal.returns-in-Back
returns-in-Back c = record { done = changed c.args.flat.now (without_input c.args.widths) c.args.self.now c.perform_step-in-Back.new.self _ _ _ (sym (ap form_of c.in-Back.is)) c.perform_step-in-Back.ensures.done }

pub returns-in-Diff : goal.returns-in-Diff
returns-in-Diff c = record { done = changed c.args.flat.now (without_input c.args.widths) c.args.self.now c.perform_difference.new.self _ _ _ (sym (ap form_of c.in-Diff.is)) c.perform_difference.ensures.done }

pub returns-in-Load : goal.returns-in-Load
returns-in-Load c = record { done = changed c.args.flat.now (without_input c.args.widths) c.args.self.now c.perform_load.new.self _ _ _ (sym (ap form_of c.in-Load.is)) c.perform_load.ensures.done }

pub returns-in-Store : goal.returns-in-Store
returns-in-Store c = record { done = changed c.args.flat.now (without_input c.args.widths) c.args.self.now c.store_value.new.self _ _ _ (sym (ap form_of c.in-Store.is)) c.store_value.ensures.done }

pub returns-in-Copy : goal.returns-in-Copy
returns-in-Copy c = record { done = changed c.args.flat.now (without_input c.args.widths) c.args.self.now c.copy_struct.new.self _ _ _ (sym (ap form_of c.in-Copy.is)) c.copy_struct.ensures.done }

pub returns-in-Kill : goal.returns-in-Kill
returns-in-Kill c = record { done = changed c.args.flat.now (without_input c.args.widths) c.args.self.now c.perform_kill.new.self _ _ _ (sym (ap form_of c.in-Kill.is)) c.perform_kill.ensures.done }

pub returns-in-Alloc : goal.returns-in-Alloc
returns-in-Alloc c = record { done = changed c.args.flat.now (without_input c.args.widths) c.args.self.now c.allocate.new.self _ _ _ (sym (ap form_of c.in-Alloc.is)) c.allocate.ensures.done }

pub returns-in-Calloc : goal.returns-in-Calloc
returns-in-Calloc c = record { done = changed c.args.flat.now (without_input c.args.widths) c.args.self.now c.allocate-in-Calloc.new.self _ _ _ (sym (ap form_of c.in-Calloc.is)) c.allocate-in-Calloc.ensures.done }

pub returns-in-Free : goal.returns-in-Free
returns-in-Free c = record { done = changed c.args.flat.now (without_input c.args.widths) c.args.self.now c.free.new.self _ _ _ (sym (ap form_of c.in-Free.is)) c.free.ensures.done }

pub returns-in-Char : goal.returns-in-Char
returns-in-Char c = record { done = changed c.args.flat.now (without_input c.args.widths) c.args.self.now c.perform_show.new.self _ _ _ (sym (ap form_of c.in-Char.is)) c.perform_show.ensures.done }

pub returns-in-Dec : goal.returns-in-Dec
returns-in-Dec c = record { done = changed c.args.flat.now (without_input c.args.widths) c.args.self.now c.perform_show-in-Dec.new.self _ _ _ (sym (ap form_of c.in-Dec.is)) c.perform_show-in-Dec.ensures.done }

pub returns-in-Hex : goal.returns-in-Hex
returns-in-Hex c = record { done = changed c.args.flat.now (without_input c.args.widths) c.args.self.now c.perform_show-in-Hex.new.self _ _ _ (sym (ap form_of c.in-Hex.is)) c.perform_show-in-Hex.ensures.done }

pub returns-in-Text : goal.returns-in-Text
returns-in-Text c = record { done = changed c.args.flat.now (without_input c.args.widths) c.args.self.now c.text.new.self _ _ _ (sym (ap form_of c.in-Text.is)) c.text.ensures.done }

pub returns-in-Label : goal.returns-in-Label
returns-in-Label c = record { done = performed c.args.flat.now (without_input c.args.widths) c.args.self.now c.on.new.self _ _ On _ (sym (ap form_of c.in-Label.is)) refl c.on.ensures.led }

pub returns-in-Jump : goal.returns-in-Jump
returns-in-Jump c = record { done = changed c.args.flat.now (without_input c.args.widths) c.args.self.now c.perform_jump.new.self _ _ _ (sym (ap form_of c.in-Jump.is)) c.perform_jump.ensures.done }

pub returns-in-If : goal.returns-in-If
returns-in-If c = record { done = changed c.args.flat.now (without_input c.args.widths) c.args.self.now c.perform_branch.new.self _ _ _ (sym (ap form_of c.in-If.is)) c.perform_branch.ensures.done }

pub returns-in-Turn : goal.returns-in-Turn
returns-in-Turn c = record { done = performed c.args.flat.now (without_input c.args.widths) c.args.self.now c.count.new.self _ _ Count _ (sym (ap form_of c.in-Turn.is)) refl c.count.ensures.led }

pub returns-in-Call : goal.returns-in-Call
returns-in-Call c = record { done = changed c.args.flat.now (without_input c.args.widths) c.args.self.now c.call.new.self _ _ _ (ap (λ (os : List Operand). form.call c.in-Call.into c.in-Call.function os) c.as_slice.ensures ∙ sym (ap form_of c.in-Call.is)) c.call.ensures.done }

pub returns-in-Return : goal.returns-in-Return
returns-in-Return c = record { done = changed c.args.flat.now (without_input c.args.widths) c.args.self.now c.perform_return.new.self _ _ _ (sym (ap form_of c.in-Return.is)) c.perform_return.ensures.done }

pub returns-in-Checkpoint : goal.returns-in-Checkpoint
returns-in-Checkpoint c = record { done = performed c.args.flat.now (without_input c.args.widths) c.args.self.now c.reach.new.self _ _ Reach _ (sym (ap form_of c.in-Checkpoint.is)) refl c.reach.ensures.led }

pub returns-in-Restore : goal.returns-in-Restore
returns-in-Restore c = record { done = performed c.args.flat.now (without_input c.args.widths) c.args.self.now c.on-in-Restore.new.self _ _ On _ (sym (ap form_of c.in-Restore.is)) refl c.on-in-Restore.ensures.led }

pub returns-in-Table : goal.returns-in-Table
returns-in-Table c = record { done = performed c.args.flat.now (without_input c.args.widths) c.args.self.now c.on-in-Table.new.self _ _ On _ (sym (ap form_of c.in-Table.is)) refl c.on-in-Table.ensures.led }

pub returns-in-Saved : goal.returns-in-Saved
returns-in-Saved c = record { done = performed c.args.flat.now (without_input c.args.widths) c.args.self.now c.on-in-Saved.new.self _ _ On _ (sym (ap form_of c.in-Saved.is)) refl c.on-in-Saved.ensures.led }

pub returns-in-Push : goal.returns-in-Push
returns-in-Push c = record { done = performed c.args.flat.now (without_input c.args.widths) c.args.self.now c.on-in-Push.new.self _ _ On _ (sym (ap form_of c.in-Push.is)) refl c.on-in-Push.ensures.led }
