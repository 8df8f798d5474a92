-- Programs that are worked out, under several layouts.
use Rattle.std.specs.Prelude.{ℕ, ℤ, pos, negsuc, ◌≡◌, [], ◌∷◌, ◌++◌, codes, false, true, Option, Some}
use Rattle.porch_types.specs.declared.shapes.Kind.TheVariants.{Long}
use Rattle.porch_types.specs.declared.shapes.Ty.TheVariants.{Pointer, Array, Struct}
use Rattle.porch_types.specs.Kinds.{kind_number, int_type}
use Rattle.porch_types.specs.Leaves.{kind_types}
use Rattle.porch_values.specs.declared.acts.Act.{Act}
use Rattle.porch_values.specs.declared.acts.Act.TheVariants as act
use Rattle.porch_layout.specs.declared.layout.Layout.{Layout}
use Rattle.porch_layout.specs.Layouts.{be32, le64, be64, be32p, le32l}
use Rattle.porch_flat.specs.declared.flat.Operand.TheVariants.{Var, Constant}
use Rattle.porch_flat.specs.declared.whole.Command.TheVariants as command
use Rattle.porch_flat.specs.declared.whole.Flat.{Flat}
use Rattle.porch_flat.specs.whole.Worked.{saving_program}
use Rattle.porch_abstract.specs.whole.Worked.{main_of, program_of, with_ints, with_structs, calling, at_an_end, with_a_block}
use Rattle.porch_bytes.specs.Leaf.{encoded, decoded}
use Rattle.porch_bytes.specs.Memory.{place_of_global, globals_end, stack_begin, heap_begin, frame_size}
use Rattle.porch_bytes.specs.State.{setting_of, prepared}
use Rattle.porch_bytes.specs.ByteRun.{ByteRun, byte_run, Ended, Trap, StackFull, HeapFull, Paused, run_to}

-- enough steps for each of these
abbrev pub STEPS : ℕ
STEPS = 100

-- the run to so many turns, with a stack of so many bytes and a heap of 64
abbrev pub run_of : (stack n : ℕ) → Layout → Flat → Option ByteRun
run_of stack n under flat =
    run_to flat (setting_of under stack 64) n STEPS (prepared flat (setting_of under stack 64)) []

abbrev pub run_under : Layout → Flat → Option ByteRun
run_under under flat = run_of 256 9 under flat

abbrev pub gives : ℤ → Option ByteRun
gives z = Some (byte_run (Ended z) 1 [])

abbrev pub traps : Act → Option ByteRun
traps a = Some (byte_run (Trap a) 1 [])

-- the bytes of leaves
pub record LeavesAreBytes : Type 0 where
  pub little : encoded false 4 (pos 258) ≡ 2 ∷ 1 ∷ 0 ∷ 0 ∷ []
  pub big : encoded true 4 (pos 258) ≡ 0 ∷ 0 ∷ 1 ∷ 2 ∷ []
  pub negative : encoded true 2 (negsuc 1) ≡ 255 ∷ 254 ∷ []
  pub back : decoded true true (255 ∷ 254 ∷ []) ≡ negsuc 1
  pub unsigned : decoded false false (255 ∷ 254 ∷ []) ≡ pos 65279

-- char t[3]; int m[2][2]; in main the variables int a; int *p; int *q; char *s;
pub record MemoryIsLaidOut : Type 0 where
  pub first : place_of_global le64 (program_of []) 0 ≡ 16
  pub second : place_of_global le64 (program_of []) 1 ≡ 20
  pub ends : globals_end le64 (program_of []) ≡ 36
  pub stack : stack_begin le64 (program_of []) ≡ 48
  pub heap : heap_begin le64 (program_of []) 4096 ≡ 4160
  pub wide_frame : frame_size le64 (program_of []) 0 ≡ 64
  pub narrow_frame : frame_size be32 (program_of []) 0 ≡ 32
  -- where there is no global
  pub empty : globals_end le64 calling ≡ 16
  pub low_stack : stack_begin le64 calling ≡ 32

pub record CallsReturn : Type 0 where
  pub value : run_of 256 5 le64 calling ≡ Some (byte_run (Ended (pos 6)) 5 [])
  pub elsewhere : run_of 256 5 be32p calling ≡ Some (byte_run (Ended (pos 6)) 5 [])
  pub paused : run_of 256 4 le64 calling ≡ Some (byte_run Paused 4 [])
  -- each frame has 16 bytes, so four fit
  pub full : run_of 64 9 le64 calling ≡ Some (byte_run (StackFull 16 0) 4 [])

pub record PointersAreAddresses : Type 0 where
  pub stored : run_under le64 (with_a_block (command.Load 0 1 ∷ command.Return (Some (Var 0)) ∷ [])) ≡ gives (pos 9)
  -- p=m[0]+2 is the address of m[1][0]
  pub shared_end : run_under le64 (at_an_end (command.GlobalA 2 1 2 ∷ command.Eq 0 (Var 1) (Var 2) ∷ command.Return (Some (Var 0)) ∷ [])) ≡ gives (pos 1)
  pub backward : run_under be32 (at_an_end (command.GlobalA 2 1 0 ∷ command.Lt 0 (Var 2) (Var 1) ∷ command.Return (Some (Var 0)) ∷ [])) ≡ gives (pos 1)
  pub element : run_under be64 (with_ints (command.Local 2 3 1 ∷ command.Store 2 (Constant (pos 7)) ∷ command.Load 0 2 ∷ command.Return (Some (Var 0)) ∷ [])) ≡ gives (pos 7)
  pub difference : run_under be32 (with_structs (command.Local 5 8 0 ∷ command.Step 6 5 (Constant (pos 1)) ∷ command.Diff 7 5 6 ∷ command.Cast 0 7 ∷ command.Return (Some (Var 0)) ∷ [])) ≡ gives (negsuc 0)
  pub copied : run_under le32l (with_structs (command.Local 3 1 0 ∷ command.Member 5 3 1 ∷ command.Store 5 (Constant (pos 9)) ∷ command.Local 4 2 0 ∷ command.Copy 4 3
      ∷ command.Member 5 4 1 ∷ command.Load 0 5 ∷ command.Return (Some (Var 0)) ∷ [])) ≡ gives (pos 9)

pub record AddressesTrap : Type 0 where
  pub null : run_under le64 (with_ints (command.Move 2 (Constant (pos 0)) ∷ command.Load 0 2 ∷ [])) ≡ traps act.Address
  -- a member's place may be added to null, where nothing is read
  pub inside_null : run_under le64 (with_ints (command.Move 2 (Constant (pos 0)) ∷ command.Member 2 2 0 ∷ command.Return (Some (Constant (pos 3))) ∷ [])) ≡ gives (pos 3)
  -- one byte after the globals, and the byte between two of them
  pub after_globals : run_under le64 (at_an_end (command.Step 1 1 (Constant (pos 2)) ∷ command.Load 0 1 ∷ [])) ≡ traps act.Address
  pub below_zero : run_under le64 (at_an_end (command.Back 1 1 (Constant (pos 8)) ∷ [])) ≡ traps act.Address
  pub past_memory : run_under le64 (at_an_end (command.Step 1 1 (Constant (pos 1000)) ∷ [])) ≡ traps act.Address
  -- an int at an odd address, in layouts that align it and in one that doesn't
  pub odd : run_under le64 (with_ints (command.GlobalA 2 0 1 ∷ command.Load 0 2 ∷ [])) ≡ traps act.Address
  pub odd_in_halves : run_under be32p (with_ints (command.GlobalA 2 0 1 ∷ command.Load 0 2 ∷ [])) ≡ traps act.Address
  pub odd_anywhere : run_under le32l (with_ints (command.GlobalA 2 0 1 ∷ command.Load 0 2 ∷ command.Return (Some (Var 0)) ∷ [])) ≡ gives (pos 0)

pub record BlocksAreTaken : Type 0 where
  -- a block's bytes are 0, and stay where it ends
  pub unset : run_under le64 (with_a_block (command.Step 1 1 (Constant (pos 1)) ∷ command.Load 0 1 ∷ command.Return (Some (Var 0)) ∷ [])) ≡ gives (pos 0)
  pub gone : run_under le64 (with_a_block (command.Free 1 ∷ command.Load 0 1 ∷ command.Return (Some (Var 0)) ∷ [])) ≡ gives (pos 9)
  pub again : run_under le64 (with_a_block (command.Free 1 ∷ command.Alloc 2 (Constant (pos 1)) ∷ command.Load 0 1 ∷ command.Return (Some (Var 0)) ∷ [])) ≡ gives (pos 0)
  pub inside : run_under le64 (with_a_block (command.Step 1 1 (Constant (pos 1)) ∷ command.Free 1 ∷ [])) ≡ traps act.Free
  pub twice : run_under le64 (with_a_block (command.Free 1 ∷ command.Free 1 ∷ [])) ≡ traps act.Free
  pub null : run_under le64 (with_a_block (command.Move 1 (Constant (pos 0)) ∷ command.Free 1 ∷ [])) ≡ gives (pos 0)
  pub none : run_under le64 (with_a_block (command.Calloc 1 (Constant (pos 0)) ∷ [])) ≡ traps act.Count
  -- 8 bytes and one after them are taken of 64
  pub full : run_under le64 (with_a_block (command.Alloc 2 (Constant (pos 25)) ∷ [])) ≡ Some (byte_run (HeapFull (record { asked = 100; largest = 55; blocks = 1 })) 1 [])

-- long x; long y; long *p; int n; with y=2^61 or more where long has 64 bits: p=&x; p=p+y; p=p+y;
abbrev pub far_steps : Flat
far_steps = record {
  types = kind_types ++ Pointer (kind_number Long) ∷ [];
  globals = [];
  functions =
      main_of (kind_number Long ∷ kind_number Long ∷ 8 ∷ int_type ∷ [])
      (command.Move 0 (Constant (pos 7)) ∷ command.Move 1 (Constant (pos 1073741824)) ∷ command.Mul 1 (Var 1) (Var 1)
      ∷ command.Add 1 (Var 1) (Var 1) ∷ command.Local 2 0 0 ∷ command.Step 2 2 (Var 1) ∷ command.Step 2 2 (Var 1)
      ∷ command.Load 0 2 ∷ command.Dec 3 (Var 0) ∷ command.Return (Some (Constant (pos 0))) ∷ []) ∷ [];
}

-- struct {int a; long b; int c[3];} s[2]; whether s[0].c+3 is &s[1].a, after a checkpoint
abbrev pub shared_end_kept : Flat
shared_end_kept = record {
  types = kind_types ++ Array int_type 3 ∷ Struct (int_type ∷ kind_number Long ∷ 8 ∷ []) ∷ Array 9 2 ∷ Pointer int_type ∷ [];
  globals = record { ty = 10; inits = [] } ∷ [];
  functions =
      main_of (11 ∷ 11 ∷ int_type ∷ [])
      (command.GlobalA 1 0 2 ∷ command.Step 0 1 (Constant (pos 3)) ∷ command.Checkpoint ∷ command.GlobalA 1 0 5
      ∷ command.Eq 2 (Var 0) (Var 1) ∷ command.Eq 2 (Var 2) (Constant (pos 0)) ∷ command.If (Var 2) 0 ∷ command.Char 2 (Constant (pos 121))
      ∷ command.Label 0 ∷ command.Return (Some (Constant (pos 0))) ∷ []) ∷ [];
}

pub record LayoutsDiffer : Type 0 where
  pub far_in_64_bits : run_under le64 far_steps ≡ traps act.Address
  pub far_in_32_bits : run_under be32 far_steps ≡ traps act.Overflow
  -- a long shifted by 32
  pub shifted_in_64_bits : run_under be64 (with_structs (command.Shl 7 (Constant (pos 1)) (Constant (pos 32)) ∷ command.Return (Some (Constant (pos 0))) ∷ [])) ≡ gives (pos 0)
  pub shifted_in_32_bits : run_under be32 (with_structs (command.Shl 7 (Constant (pos 1)) (Constant (pos 32)) ∷ command.Return (Some (Constant (pos 0))) ∷ [])) ≡ traps act.Shift
  -- padding stands between the structs where long is aligned to 8
  pub apart : run_under le64 shared_end_kept ≡ gives (pos 0)
  pub together : run_under be32 shared_end_kept ≡ Some (byte_run (Ended (pos 0)) 1 (121 ∷ []))
  pub packed : run_under be32p shared_end_kept ≡ Some (byte_run (Ended (pos 0)) 1 (121 ∷ []))

pub record TextsAreShown : Type 0 where
  pub text : run_under le64 (program_of (command.GlobalA 3 0 0 ∷ command.Text 0 3 ∷ command.Return (Some (Var 0)) ∷ [])) ≡ Some (byte_run (Ended (pos 2)) 1 (104 ∷ 105 ∷ []))
  -- the byte after t is 0, and is read, too
  pub no_end : run_under le64 (program_of (command.GlobalA 3 0 2 ∷ command.Store 3 (Constant (pos 33)) ∷ command.Text 0 3 ∷ command.Return (Some (Var 0)) ∷ [])) ≡ Some (byte_run (Ended (pos 1)) 1 (33 ∷ []))
  pub null : run_under le64 (program_of (command.Move 3 (Constant (pos 0)) ∷ command.Text 0 3 ∷ [])) ≡ traps act.Address
  pub characters : run_under be32 (with_ints (command.Char 0 (Constant (pos 321)) ∷ command.Char 0 (Constant (negsuc 0)) ∷ command.Return (Some (Var 0)) ∷ [])) ≡ Some (byte_run (Ended (pos 1)) 1 (65 ∷ 255 ∷ []))
  -- a checkpoint is gone past, and the commands for saving do nothing
  pub saving : run_under be32p saving_program ≡ Some (byte_run (Ended (pos 0)) 1 (65 ∷ []))

pub record NumbersArePrinted : Type 0 where
  pub decimal : run_under be32 (with_ints (command.Dec 0 (Constant (negsuc 11)) ∷ command.Return (Some (Var 0)) ∷ [])) ≡ Some (byte_run (Ended (pos 3)) 1 (codes "-12"))
  pub hexadecimal : run_under be32 (with_ints (command.Hex 0 (Constant (pos 255)) ∷ command.Return (Some (Var 0)) ∷ [])) ≡ Some (byte_run (Ended (pos 2)) 1 (codes "ff"))
