-- The forms that code has in hand, as the definitions see them.
use Rattle.porch_flat.specs.declared.whole.form.Form.{Form as HeldForm}
use Rattle.porch_flat.specs.declared.whole.form.Form.TheVariants as held
use Rattle.porch_flat.specs.declared.whole.form.Within.{Within as HeldWithin}
use Rattle.porch_flat.specs.declared.whole.form.Within.TheVariants as within
use Rattle.porch_flat.specs.whole.Form.{Form, Within, variable, global, pointee, move, cast, operator, complement, comparison, subobject, step, difference, load, store, copy, kill, allocate, free, show, text, label, jump, branch, turn, call, return, checkpoint, restore, table, saved, push}

abbrev pub within_of : HeldWithin → Within
within_of (within.Variable w) = variable w
within_of (within.Global g) = global g
within_of (within.Pointee p) = pointee p

abbrev pub view_of : HeldForm → Form
view_of (held.Move v o) = move v o
view_of (held.Cast v w) = cast v w
view_of (held.Operator op v a b) = operator op v a b
view_of (held.Complement v o) = complement v o
view_of (held.Comparison c v a b) = comparison c v a b
view_of (held.Subobject v w leaf) = subobject v (within_of w) leaf
view_of (held.Step way v p o) = step way v p o
view_of (held.Difference v p q) = difference v p q
view_of (held.Load v p) = load v p
view_of (held.Store p o) = store p o
view_of (held.Copy p q) = copy p q
view_of (held.Kill v) = kill v
view_of (held.Allocate zeroed v o) = allocate zeroed v o
view_of (held.Free p) = free p
view_of (held.Show how v o) = show how v o
view_of (held.Text v p) = text v p
view_of (held.Label n) = label n
view_of (held.Jump n) = jump n
view_of (held.Branch o n) = branch o n
view_of held.Turn = turn
view_of (held.Call r f os) = call r f os.now
view_of (held.Return o) = return o
view_of held.Checkpoint = checkpoint
view_of (held.Restore vs) = restore vs.now
view_of (held.Table k n) = table k n
view_of (held.Saved k n) = saved k n
view_of (held.Push vs) = push vs.now
