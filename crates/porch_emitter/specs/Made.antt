-- Code in the making.
use Rattle.std.specs.Prelude.{ℕ, List, [], ◌++◌, Option, Some, None}
use Rattle.porch_flat.specs.declared.whole.Command.{Command}
use Rattle.porch_lowering.specs.Code.{InUse, none_in_use, and_one, at_most, Code, Held}
use Rattle.porch_emitter.specs.Pools.{used_in, most_in}
use Rattle.porch_emitter.specs.Starts.{start_in}
use Rattle.porch_emitter.specs.declared.emitter.Emitter as emitter

pub record Made : Type 0 where
  pub commands : List Command
  -- where the temporaries of each type begin
  pub start : ℕ → ℕ
  -- how many of each type are in use, and the most that were where they were counted
  pub used : InUse
  pub most : InUse
  -- the first free label
  pub label : ℕ

abbrev pub made_of : emitter.Emitter → Made
made_of e =
    record {
      commands = e.commands;
      start = start_in e.starts;
      used = used_in e.pools;
      most = most_in e.pools;
      label = e.label;
    }

-- nothing is made, where the temporaries of each type begin at these numbers
abbrev pub nothing_made : (start : ℕ → ℕ) → Made
nothing_made start =
    record { commands = []; start = start; used = none_in_use; most = none_in_use; label = 0 }

-- with commands behind
abbrev pub with_commands : Made → List Command → Made
with_commands m commands =
    record { commands = m.commands ++ commands; start = m.start; used = m.used; most = m.most; label = m.label }

-- with these in use
abbrev pub with_used : Made → InUse → Made
with_used m used =
    record { commands = m.commands; start = m.start; used = used; most = m.most; label = m.label }

-- where what is in use counts
abbrev pub with_count : Made → Made
with_count m =
    record { commands = m.commands; start = m.start; used = m.used; most = at_most m.most m.used; label = m.label }

-- with labels free from one on
abbrev pub with_label : Made → ℕ → Made
with_label m label =
    record { commands = m.commands; start = m.start; used = m.used; most = m.most; label = label }

-- with code behind, which leaves what is in use as it is
abbrev pub with_code : Made → Code → Made
with_code m c =
    record {
      commands = m.commands ++ c.commands;
      start = m.start;
      used = m.used;
      most = at_most m.most c.most;
      label = c.label;
    }

-- with the code of a value behind, which is held
abbrev pub with_held : Made → Held → Made
with_held m h = with_used (with_code m h.code) h.used

-- a temporary of a type more, or none
abbrev pub and_taken : Option ℕ → InUse → InUse
and_taken None used = used
and_taken (Some ty) used = and_one ty used
