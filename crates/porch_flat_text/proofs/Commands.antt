-- What is written of a command is read again.
use Rattle.std.proofs.Common.{◌≡◌, ℕ, List, [], ◌∷◌, map, length, Option, Some, refl, ap, ◌∙◌}
use Rattle.std.specs.List.{AllByRecursion}
use Rattle.porch_flat.specs.declared.flat.Operand.{Operand}
use Rattle.porch_flat.specs.declared.whole.Command.{Command}
use Rattle.porch_flat.specs.declared.whole.Command.TheVariants as command
use Rattle.porch_flat_line.specs.declared.word.Word.TheVariants as word
use Rattle.porch_flat_line.specs.Text.{Argument, number, variable, argument_text, arguments_text, operand, target, command_row}
use Rattle.porch_flat_text.specs.Fitting.{ArgumentFits, RowFits}
use Rattle.porch_flat_text.specs.inside.Numbers.{number_in, variable_in, operand_in, target_in}
use Rattle.porch_flat_text.specs.inside.Cuts.{first, rest, each_in}
use Rattle.porch_flat_text.specs.inside.Commands.{command_from}
use Rattle.porch_flat_text.proofs.Written.{first_written, rest_written}
use Rattle.porch_flat_text.proofs.Decoded.{number_again, variable_again, operand_again, operand_list_again, target_again, list_again}

-- the argument at the first, second, third and fourth place
pub at_first : {X : Type 0} (f : List ℕ → X) (a : Argument) (more : List Argument) (x : X) → ArgumentFits a → f (argument_text a) ≡ x → f (first (arguments_text (a ∷ more))) ≡ x
at_first f a more x fits again = ap f (first_written a more fits) ∙ again

pub at_second : {X : Type 0} (f : List ℕ → X) (a b : Argument) (more : List Argument) (x : X) → ArgumentFits a → ArgumentFits b → f (argument_text b) ≡ x → f (first (rest (arguments_text (a ∷ b ∷ more)))) ≡ x
at_second f a b more x fa fits again = ap (λ s. f (first s)) (rest_written a (b ∷ more) fa) ∙ at_first f b more x fits again

pub at_third : {X : Type 0} (f : List ℕ → X) (a b c : Argument) (more : List Argument) (x : X) → ArgumentFits a → ArgumentFits b → ArgumentFits c → f (argument_text c) ≡ x → f (first (rest (rest (arguments_text (a ∷ b ∷ c ∷ more))))) ≡ x
at_third f a b c more x fa fb fits again = ap (λ s. f (first (rest s))) (rest_written a (b ∷ c ∷ more) fa) ∙ at_second f b c more x fb fits again

pub at_fourth : {X : Type 0} (f : List ℕ → X) (a b c d : Argument) (more : List Argument) (x : X) → ArgumentFits a → ArgumentFits b → ArgumentFits c → ArgumentFits d → f (argument_text d) ≡ x → f (first (rest (rest (rest (arguments_text (a ∷ b ∷ c ∷ d ∷ more)))))) ≡ x
at_fourth f a b c d more x fa fb fc fits again = ap (λ s. f (first (rest (rest s)))) (rest_written a (b ∷ c ∷ d ∷ more) fa) ∙ at_third f b c d more x fb fc fits again

made_one : {X : Type 0} (c : X → Command) (x y : X) → x ≡ y → Some (c x) ≡ Some (c y)
made_one c x y e = cc

made_two : {X Y : Type 0} (c : X → Y → Command) (x : X) (y : Y) (v : X) (w : Y) → x ≡ v → y ≡ w → Some (c x y) ≡ Some (c v w)
made_two c x y v w e f = cc

made_three : {X Y Z : Type 0} (c : X → Y → Z → Command) (x : X) (y : Y) (z : Z) (u : X) (v : Y) (w : Z) → x ≡ u → y ≡ v → z ≡ w → Some (c x y z) ≡ Some (c u v w)
made_three c x y z u v w e f g = cc

of_vo : (c : ℕ → Operand → Command) (x : ℕ) (y : Operand) → AllByRecursion ArgumentFits (variable x ∷ operand y ∷ []) → (let s = arguments_text (variable x ∷ operand y ∷ []) in Some (c (variable_in (first s)) (operand_in (first (rest s)))) ≡ Some (c x y))
of_vo c x y fits =
    made_two c _ _ x y
    (at_first variable_in (variable x) (operand y ∷ []) x fits.0 (variable_again x fits.0))
    (at_second operand_in (variable x) (operand y) ([]) y fits.0 fits.1.0 (operand_again y fits.1.0))

of_vv : (c : ℕ → ℕ → Command) (x : ℕ) (y : ℕ) → AllByRecursion ArgumentFits (variable x ∷ variable y ∷ []) → (let s = arguments_text (variable x ∷ variable y ∷ []) in Some (c (variable_in (first s)) (variable_in (first (rest s)))) ≡ Some (c x y))
of_vv c x y fits =
    made_two c _ _ x y
    (at_first variable_in (variable x) (variable y ∷ []) x fits.0 (variable_again x fits.0))
    (at_second variable_in (variable x) (variable y) ([]) y fits.0 fits.1.0 (variable_again y fits.1.0))

of_voo : (c : ℕ → Operand → Operand → Command) (x : ℕ) (y : Operand) (z : Operand) → AllByRecursion ArgumentFits (variable x ∷ operand y ∷ operand z ∷ []) → (let s = arguments_text (variable x ∷ operand y ∷ operand z ∷ []) in Some (c (variable_in (first s)) (operand_in (first (rest s))) (operand_in (first (rest (rest s))))) ≡ Some (c x y z))
of_voo c x y z fits =
    made_three c _ _ _ x y z
    (at_first variable_in (variable x) (operand y ∷ operand z ∷ []) x fits.0 (variable_again x fits.0))
    (at_second operand_in (variable x) (operand y) (operand z ∷ []) y fits.0 fits.1.0 (operand_again y fits.1.0))
    (at_third operand_in (variable x) (operand y) (operand z) ([]) z fits.0 fits.1.0 fits.1.1.0 (operand_again z fits.1.1.0))

of_vvn : (c : ℕ → ℕ → ℕ → Command) (x : ℕ) (y : ℕ) (z : ℕ) → AllByRecursion ArgumentFits (variable x ∷ variable y ∷ number z ∷ []) → (let s = arguments_text (variable x ∷ variable y ∷ number z ∷ []) in Some (c (variable_in (first s)) (variable_in (first (rest s))) (number_in (first (rest (rest s))))) ≡ Some (c x y z))
of_vvn c x y z fits =
    made_three c _ _ _ x y z
    (at_first variable_in (variable x) (variable y ∷ number z ∷ []) x fits.0 (variable_again x fits.0))
    (at_second variable_in (variable x) (variable y) (number z ∷ []) y fits.0 fits.1.0 (variable_again y fits.1.0))
    (at_third number_in (variable x) (variable y) (number z) ([]) z fits.0 fits.1.0 fits.1.1.0 (number_again z fits.1.1.0))

of_vnn : (c : ℕ → ℕ → ℕ → Command) (x : ℕ) (y : ℕ) (z : ℕ) → AllByRecursion ArgumentFits (variable x ∷ number y ∷ number z ∷ []) → (let s = arguments_text (variable x ∷ number y ∷ number z ∷ []) in Some (c (variable_in (first s)) (number_in (first (rest s))) (number_in (first (rest (rest s))))) ≡ Some (c x y z))
of_vnn c x y z fits =
    made_three c _ _ _ x y z
    (at_first variable_in (variable x) (number y ∷ number z ∷ []) x fits.0 (variable_again x fits.0))
    (at_second number_in (variable x) (number y) (number z ∷ []) y fits.0 fits.1.0 (number_again y fits.1.0))
    (at_third number_in (variable x) (number y) (number z) ([]) z fits.0 fits.1.0 fits.1.1.0 (number_again z fits.1.1.0))

of_vvo : (c : ℕ → ℕ → Operand → Command) (x : ℕ) (y : ℕ) (z : Operand) → AllByRecursion ArgumentFits (variable x ∷ variable y ∷ operand z ∷ []) → (let s = arguments_text (variable x ∷ variable y ∷ operand z ∷ []) in Some (c (variable_in (first s)) (variable_in (first (rest s))) (operand_in (first (rest (rest s))))) ≡ Some (c x y z))
of_vvo c x y z fits =
    made_three c _ _ _ x y z
    (at_first variable_in (variable x) (variable y ∷ operand z ∷ []) x fits.0 (variable_again x fits.0))
    (at_second variable_in (variable x) (variable y) (operand z ∷ []) y fits.0 fits.1.0 (variable_again y fits.1.0))
    (at_third operand_in (variable x) (variable y) (operand z) ([]) z fits.0 fits.1.0 fits.1.1.0 (operand_again z fits.1.1.0))

of_vvv : (c : ℕ → ℕ → ℕ → Command) (x : ℕ) (y : ℕ) (z : ℕ) → AllByRecursion ArgumentFits (variable x ∷ variable y ∷ variable z ∷ []) → (let s = arguments_text (variable x ∷ variable y ∷ variable z ∷ []) in Some (c (variable_in (first s)) (variable_in (first (rest s))) (variable_in (first (rest (rest s))))) ≡ Some (c x y z))
of_vvv c x y z fits =
    made_three c _ _ _ x y z
    (at_first variable_in (variable x) (variable y ∷ variable z ∷ []) x fits.0 (variable_again x fits.0))
    (at_second variable_in (variable x) (variable y) (variable z ∷ []) y fits.0 fits.1.0 (variable_again y fits.1.0))
    (at_third variable_in (variable x) (variable y) (variable z) ([]) z fits.0 fits.1.0 fits.1.1.0 (variable_again z fits.1.1.0))

of_v : (c : ℕ → Command) (x : ℕ) → AllByRecursion ArgumentFits (variable x ∷ []) → (let s = arguments_text (variable x ∷ []) in Some (c (variable_in (first s))) ≡ Some (c x))
of_v c x fits =
    made_one c _ x
    (at_first variable_in (variable x) ([]) x fits.0 (variable_again x fits.0))

of_n : (c : ℕ → Command) (x : ℕ) → AllByRecursion ArgumentFits (number x ∷ []) → (let s = arguments_text (number x ∷ []) in Some (c (number_in (first s))) ≡ Some (c x))
of_n c x fits =
    made_one c _ x
    (at_first number_in (number x) ([]) x fits.0 (number_again x fits.0))

of_on : (c : Operand → ℕ → Command) (x : Operand) (y : ℕ) → AllByRecursion ArgumentFits (operand x ∷ number y ∷ []) → (let s = arguments_text (operand x ∷ number y ∷ []) in Some (c (operand_in (first s)) (number_in (first (rest s)))) ≡ Some (c x y))
of_on c x y fits =
    made_two c _ _ x y
    (at_first operand_in (operand x) (number y ∷ []) x fits.0 (operand_again x fits.0))
    (at_second number_in (operand x) (number y) ([]) y fits.0 fits.1.0 (number_again y fits.1.0))

of_nn : (c : ℕ → ℕ → Command) (x : ℕ) (y : ℕ) → AllByRecursion ArgumentFits (number x ∷ number y ∷ []) → (let s = arguments_text (number x ∷ number y ∷ []) in Some (c (number_in (first s)) (number_in (first (rest s)))) ≡ Some (c x y))
of_nn c x y fits =
    made_two c _ _ x y
    (at_first number_in (number x) (number y ∷ []) x fits.0 (number_again x fits.0))
    (at_second number_in (number x) (number y) ([]) y fits.0 fits.1.0 (number_again y fits.1.0))

of_call : (r : Option ℕ) (f : ℕ) (os : List Operand) → AllByRecursion ArgumentFits (target r ∷ number f ∷ map operand os)
    → command_from word.Call (arguments_text (target r ∷ number f ∷ map operand os)) ≡ Some (command.Call r f os)
of_call r f os fits =
    let behind : rest (rest (arguments_text (target r ∷ number f ∷ map operand os))) ≡ arguments_text (map operand os) =
    ap rest (rest_written (target r) (number f ∷ map operand os) fits.0) ∙ rest_written (number f) (map operand os) fits.1.0 in
    made_three command.Call _ _ _ r f os
    (at_first target_in (target r) (number f ∷ map operand os) r fits.0 (target_again r fits.0))
    (at_second number_in (target r) (number f) (map operand os) f fits.0 fits.1.0 (number_again f fits.1.0))
    (ap (λ s. each_in operand_in (length s) s) behind ∙ list_again operand_in operand operand_again os fits.1.1)

pub command_again : (c : Command) → RowFits (command_row c) → command_from (command_row c).word (arguments_text (command_row c).arguments) ≡ Some c
command_again (command.Move x y) fits = of_vo command.Move x y fits
command_again (command.Cast x y) fits = of_vv command.Cast x y fits
command_again (command.Add x y z) fits = of_voo command.Add x y z fits
command_again (command.Sub x y z) fits = of_voo command.Sub x y z fits
command_again (command.Mul x y z) fits = of_voo command.Mul x y z fits
command_again (command.Div x y z) fits = of_voo command.Div x y z fits
command_again (command.Rem x y z) fits = of_voo command.Rem x y z fits
command_again (command.And x y z) fits = of_voo command.And x y z fits
command_again (command.Or x y z) fits = of_voo command.Or x y z fits
command_again (command.Xor x y z) fits = of_voo command.Xor x y z fits
command_again (command.Shl x y z) fits = of_voo command.Shl x y z fits
command_again (command.Shr x y z) fits = of_voo command.Shr x y z fits
command_again (command.Not x y) fits = of_vo command.Not x y fits
command_again (command.Lt x y z) fits = of_voo command.Lt x y z fits
command_again (command.Le x y z) fits = of_voo command.Le x y z fits
command_again (command.Eq x y z) fits = of_voo command.Eq x y z fits
command_again (command.Ne x y z) fits = of_voo command.Ne x y z fits
command_again (command.Local x y z) fits = of_vvn command.Local x y z fits
command_again (command.GlobalA x y z) fits = of_vnn command.GlobalA x y z fits
command_again (command.Member x y z) fits = of_vvn command.Member x y z fits
command_again (command.Step x y z) fits = of_vvo command.Step x y z fits
command_again (command.Back x y z) fits = of_vvo command.Back x y z fits
command_again (command.Diff x y z) fits = of_vvv command.Diff x y z fits
command_again (command.Load x y) fits = of_vv command.Load x y fits
command_again (command.Store x y) fits = of_vo command.Store x y fits
command_again (command.Copy x y) fits = of_vv command.Copy x y fits
command_again (command.Kill x) fits = of_v command.Kill x fits
command_again (command.Alloc x y) fits = of_vo command.Alloc x y fits
command_again (command.Calloc x y) fits = of_vo command.Calloc x y fits
command_again (command.Free x) fits = of_v command.Free x fits
command_again (command.Char x y) fits = of_vo command.Char x y fits
command_again (command.Dec x y) fits = of_vo command.Dec x y fits
command_again (command.Hex x y) fits = of_vo command.Hex x y fits
command_again (command.Text x y) fits = of_vv command.Text x y fits
command_again (command.Label x) fits = of_n command.Label x fits
command_again (command.Jump x) fits = of_n command.Jump x fits
command_again (command.If x y) fits = of_on command.If x y fits
command_again command.Turn fits = refl
command_again (command.Table x y) fits = of_nn command.Table x y fits
command_again (command.Saved x y) fits = of_nn command.Saved x y fits
command_again command.Checkpoint fits = refl
command_again (command.Call r f os) fits = of_call r f os fits
command_again (command.Return o) fits = made_one command.Return _ o (operand_list_again o fits)
command_again (command.Restore vs) fits = made_one command.Restore _ vs (list_again variable_in variable variable_again vs fits)
command_again (command.Push vs) fits = made_one command.Push _ vs (list_again variable_in variable variable_again vs fits)
