-- Calls of the library.
use Rattle.std.proofs.Common.{◌≡◌, ◌<◌, ℕ, pos, List, [], ◌∷◌, length, refl, ap, subst, ◌∙◌, Option, Some, None, Bool, true, false, Ok}
use Rattle.std.proofs.lemmas.Bool.{eqb-true}
use Rattle.std.proofs.lemmas.List.Elements.{All-nil, All-cons}
use Rattle.std.specs.Prelude.{nat_eq, if◌then◌else◌}
use Rattle.porch_lex.specs.declared.refusal.Rule.TheVariants.{Mismatch, Format}
use Rattle.porch_types.specs.declared.shapes.Kind.TheVariants.{Char, Int}
use Rattle.porch_types.specs.Kinds.{kind_number, int_type}
use Rattle.porch_typed.specs.declared.typed.Conversion.{Conversion}
use Rattle.porch_typed.specs.Mirror.{Expression, constant, conversion, discard, put_character, put_text, put_literal, print, allocate, release, checkpoint, Prints, no_prints, with_print}
use Rattle.porch_typed.specs.Mirror as tree
use Rattle.porch_typed.specs.Typed.{type_of_kind, AreBytes, IsWhole, IsPointerTo, OfType, HasType, ArePrints, IsPrint}
use Rattle.porch_check.specs.Refusals.{refuse, and_then, found_or}
use Rattle.porch_check.specs.Shapes.{pointer}
use Rattle.porch_check.specs.Scopes.{Library, of_printf, of_puts, of_putchar, of_malloc, of_calloc, of_free, of_checkpoint, Scopes}
use Rattle.porch_check.specs.Operands.{Value, integer, address, nothing, Typed, typed_as, Form, operand, literal, size, sized, callee, library_callee, go_on, value_of, promoted, is_null, fitted}
use Rattle.porch_check.specs.Calls.{Argument, Directive, byte, number, text, in_text, directives, count_taken, takes, is_char_pointer, shown_number, printed_number, printed_text, with_byte, prints_of, int_form, printed, allocation, counted, malloc_form, calloc_form, puts_form, released, library_call, call_form}
use Rattle.porch_check.specs.Sealing.{sealed, sealed_prints, sealed_print}
use Rattle.porch_typing.specs.Shapes.{Each, IsKnown}
use Rattle.porch_typing.specs.States.{IsState, Holds, Gives}
use Rattle.porch_typing.specs.Ends.{End, IsEnd, seal}
use Rattle.porch_typing.specs.Forms.{IsKnownForm, Anything, type_of_value, IsOperand, IsForm, Leads}
use Rattle.porch_typing.proofs.Shapes.{known_on}
use Rattle.porch_typing.proofs.States.{follow, found, refused, shaped, so, pure, under, gives_all, gives_more}
use Rattle.porch_typing.proofs.Ends.{pointer_to, is_pointer, kind_whole}
use Rattle.porch_typing.proofs.Values.{Has, as_operand, value_rule, Fits, fitted_rule}
use Rattle.porch_typing.proofs.Operators.{by_test, kind_has, address_has, address_is}
use Rattle.porch_typing.proofs.CallForms.{IsByte, AreDirectives, format_bytes, AreKnown, AreForms, forms_on, program_rule}

module _ (w : End) (h : IsEnd w) where
  abbrev F : Form → Type 0
  F f = IsForm w f

  abbrev Shows : tree.Print → Type 0
  Shows p = IsPrint w.program w.function (sealed_print (seal w) p)

  abbrev ShowAll : Prints → Type 0
  ShowAll ps = ArePrints w.program w.function (sealed_prints (seal w) ps)

  -- a pointer to char
  abbrev IsText : Expression → Type 0
  IsText e = OfType w.program w.function (λ t. IsPointerTo w.program.types t (type_of_kind Char)) (HasType w.program w.function (sealed (seal w) e))

  text_typed : (s : Scopes) (x : Typed) → IsOperand w x → is_char_pointer s x.value ≡ true → IsText x.tree
  text_typed s x o e = by x.value refl e
    where
      by : (v : Value) → x.value ≡ v → is_char_pointer s v ≡ true → IsText x.tree
      by (address n to) p z =
          (let char : seal w to ≡ type_of_kind Char = ap (seal w) (eqb-true to (kind_number Char) z) ∙ h.numbers Char in
          (seal w n, subst (λ t. IsPointerTo w.program.types (seal w n) t) char (pointer_to w h n to (address_is w h x n to o p)), address_has w h x n to o p))
      by v p z = absurd (cc)

  number_shown : (how : Conversion) (at : ℕ) (x : Typed) (v : Value) → x.value ≡ v → IsOperand w x → Gives Shows (shown_number how at x v)
  number_shown how at x (integer kind) p o =
      by_test Shows (takes how (promoted kind)) _ _ at (λ e. (refl, (type_of_kind kind, kind_whole w h kind, kind_has w h x kind o p)))
  number_shown how at x v p o = record { is = tt }

  number_rule : (how : Conversion) (at : ℕ) (f : Form) (s : Scopes) → IsState s → IsKnownForm f s
      → Holds (Leads w Anything (λ p. F f → Shows p) s) (printed_number how at f s)
  number_rule how at (literal bs) s st k = refused w _
  number_rule how at f s st k =
      follow w s (value_of at f s) _ (value_rule w h s at f st k) (λ x t g st2 k2.
      pure w t (shown_number how at x x.value) (λ p. p) st2 (gives_all _ (λ p. tt)) (λ ag c.
      under _ (λ value. under _ (λ f. number_shown how at x x.value refl (value f)))))

  text_rule : (at : ℕ) (f : Form) (s : Scopes) → IsState s → IsKnownForm f s
      → Holds (Leads w Anything (λ p. F f → Shows p) s) (printed_text at f s)
  text_rule at (literal bs) s st k = found w s (tree.literal bs) st tt (λ a c f. f)
  text_rule at f s st k =
      follow w s (value_of at f s) _ (value_rule w h s at f st k) (λ x t g st2 k2. if_text at f x t st2 (is_char_pointer t x.value) refl)
    where
      if_text : (at : ℕ) (f : Form) (x : Typed) (t : Scopes) → IsState t → (b : Bool) → is_char_pointer t x.value ≡ b
          → Holds (Leads w Anything (λ p. (F f → IsOperand w x) → F f → Shows p) t) (if b then Ok (tree.text x.tree, t) else refuse Format at)
      if_text at f x t st true e = found w t (tree.text x.tree) st tt (λ a c value f. text_typed t x (value f) e)
      if_text at f x t st false e = refused w _

  with_byte_typed : (c : ℕ) (ps : Prints) → c < 256 → ShowAll ps → ShowAll (with_byte c ps)
  with_byte_typed c no_prints k all = (All-cons (λ b. b < 256) c [] k (All-nil (λ b. b < 256)), tt)
  with_byte_typed c (with_print (tree.bytes bs) ps) k all = (All-cons (λ b. b < 256) c bs k all.0, all.1)
  with_byte_typed c (with_print p ps) k all = (All-cons (λ b. b < 256) c [] k (All-nil (λ b. b < 256)), all)

  abbrev PrintsAll : List Directive → List Argument → Prints → Type 0
  PrintsAll ds args ps = Each IsByte ds → AreForms w h args → ShowAll ps

  prints_rule : (ds : List Directive) (args : List Argument) (s : Scopes) → IsState s → AreKnown args s
      → Holds (Leads w Anything (PrintsAll ds args) s) (prints_of ds args s)
  prints_rule [] args s st k = found w s no_prints st tt (λ a c d f. tt)
  prints_rule (byte b ∷ ds) args s st k =
      follow w s (prints_of ds args s) _ (prints_rule ds args s st k) (λ ps t g st2 k2.
      found w t (with_byte b ps) st2 tt (λ a c rest d f. with_byte_typed b ps d.0 (rest d.1 f)))
  prints_rule (number how ∷ ds) (a ∷ args) s st k =
      follow w s (printed_number how a.at a.form s) _ (number_rule how a.at a.form s st k.0) (λ p t g st2 k2.
      follow w t (prints_of ds args t) _ (prints_rule ds args t st2 (forms_on w.last s t args g k.1)) (λ ps u g3 st3 k3.
      found w u (with_print p ps) st3 tt (λ ag c rest one d f. (one f.0, rest d.1 f.1))))
  prints_rule (text ∷ ds) (a ∷ args) s st k =
      follow w s (printed_text a.at a.form s) _ (text_rule a.at a.form s st k.0) (λ p t g st2 k2.
      follow w t (prints_of ds args t) _ (prints_rule ds args t st2 (forms_on w.last s t args g k.1)) (λ ps u g3 st3 k3.
      found w u (with_print p ps) st3 tt (λ ag c rest one d f. (one f.0, rest d.1 f.1))))
  prints_rule (number how ∷ ds) [] s st k = found w s no_prints st tt (λ a c d f. tt)
  prints_rule (text ∷ ds) [] s st k = found w s no_prints st tt (λ a c d f. tt)

  int_typed : (e : Expression) → Has w h e (Some (type_of_kind Int)) → F (int_form e)
  int_typed e t = as_operand w h e (integer Int) t tt

  printed_rule : (at : ℕ) (f : Form) (format : ℕ) (args : List Argument) (s : Scopes) → IsState s → AreKnown args s
      → Holds (Leads w IsKnownForm (λ g. F f → AreForms w h args → F g) s) (printed at f format args s)
  printed_rule at (literal bs) format args s st k = by (directives in_text bs) refl
    where
      with_count : (ds : List Directive) → (AreBytes bs → Each IsByte ds) → (b : Bool)
          → Holds (Leads w IsKnownForm (λ g. F (literal bs) → AreForms w h args → F g) s)
          (if b then go_on (prints_of ds args s) (λ ps s. Ok (int_form (print ps), s)) else refuse Format at)
      with_count ds bytes true =
          follow w s (prints_of ds args s) _ (prints_rule ds args s st k) (λ ps t g st2 k2.
          found w t (int_form (print ps)) st2 tt (λ a c rest f forms. int_typed (print ps) (refl, rest (bytes f) forms)))
      with_count ds bytes false = refused w _

      by : (o : Option (List Directive)) → directives in_text bs ≡ o
          → Holds (Leads w IsKnownForm (λ g. F (literal bs) → AreForms w h args → F g) s)
          (found_or o Format format (λ ds.
          if nat_eq (count_taken ds) (length args)
          then go_on (prints_of ds args s) (λ ps s. Ok (int_form (print ps), s))
          else refuse Format at))
      by None e = refused w _
      by (Some ds) e = with_count ds (λ f. subst (λ o. AreDirectives o) e (format_bytes in_text bs f)) (nat_eq (count_taken ds) (length args))
  printed_rule at f format args s st k = refused w _

  -- Allocations.

  abbrev IsCount : Expression → Type 0
  IsCount e = OfType w.program w.function (IsWhole w.program.types) (HasType w.program w.function (sealed (seal w) e))

  allocated : {H : Type 0} (zeroed : Bool) (n : ℕ) (e : Expression) (s : Scopes) → IsState s → IsKnown s.shapes n → (H → IsCount e)
      → Holds (Leads w IsKnownForm (λ g. H → F g) s) (allocation zeroed n e s)
  allocated zeroed n e s st k count =
      shaped w s (pointer n) (λ r. operand (record { tree = allocate r zeroed e; value = address r n; is_zero = false; is_allocation = true })) st (k, tt)
      (λ r t known g. tt)
      (λ r a c x i. record { tree = (refl, is_pointer w h r n x, count i); value = x; zero = λ z. absurd (cc) })

  counted_rule : {H : Type 0} (zeroed : Bool) (at n : ℕ) (x : Typed) (v : Value) (s : Scopes) → x.value ≡ v → IsState s → IsKnown s.shapes n → (H → IsOperand w x)
      → Holds (Leads w IsKnownForm (λ g. H → F g) s) (counted zeroed at n x v s)
  counted_rule zeroed at n x (integer kind) s p st k o =
      allocated zeroed n x.tree s st k (λ i. (type_of_kind kind, kind_whole w h kind, kind_has w h x kind (o i) p))
  counted_rule zeroed at n x v s p st k o = refused w _

  malloc_rule : (at : ℕ) (f : Form) (s : Scopes) → IsState s → IsKnownForm f s → Holds (Leads w IsKnownForm (λ g. F f → F g) s) (malloc_form at f s)
  malloc_rule at (size n) s st k = allocated false n (constant Int (pos 1)) s st k (λ i. (type_of_kind Int, kind_whole w h Int, (refl, refl)))
  malloc_rule at (sized x n) s st k = counted_rule false at n x x.value s refl st k (λ f. f.0)
  malloc_rule at f s st k = refused w _

  calloc_rule : (at : ℕ) (a : Argument) (f : Form) (s : Scopes) → IsState s → IsKnownForm a.form s → IsKnownForm f s
      → Holds (Leads w IsKnownForm (λ g. F a.form → F f → F g) s) (calloc_form at a f s)
  calloc_rule at a (size n) s st j k =
      follow w s (value_of a.at a.form s) _ (value_rule w h s a.at a.form st j) (λ x t g st2 k2.
      so w t _ (counted_rule {H = IsOperand w x} true at n x x.value t refl st2 (known_on w.last s.shapes t.shapes n g k) (λ o. o))
      (λ f ag made_of value one two. made_of (value one)))
  calloc_rule at a f s st j k = refused w _

  puts_rule : (at : ℕ) (f : Form) (s : Scopes) → IsState s → IsKnownForm f s → Holds (Leads w IsKnownForm (λ g. F f → F g) s) (puts_form at f s)
  puts_rule at (literal bs) s st k = found w s (int_form (put_literal bs)) st tt (λ a c f. int_typed (put_literal bs) (refl, f))
  puts_rule at f s st k =
      follow w s (value_of at f s) _ (value_rule w h s at f st k) (λ x t g st2 k2. if_text at f x t st2 (is_char_pointer t x.value) refl)
    where
      if_text : (at : ℕ) (f : Form) (x : Typed) (t : Scopes) → IsState t → (b : Bool) → is_char_pointer t x.value ≡ b
          → Holds (Leads w IsKnownForm (λ g. (F f → IsOperand w x) → F f → F g) t) (if b then Ok (int_form (put_text x.tree), t) else refuse Mismatch at)
      if_text at f x t st true e = found w t (int_form (put_text x.tree)) st tt (λ a c value f. int_typed (put_text x.tree) (refl, text_typed t x (value f) e))
      if_text at f x t st false e = refused w _

  putchar_rule : (a : Argument) (s : Scopes) → IsState s → IsKnownForm a.form s
      → Holds (Leads w IsKnownForm (λ g. F a.form → F g) s)
      (go_on (value_of a.at a.form s) (λ x s. and_then (fitted a.at int_type x s) (λ e. Ok (int_form (put_character e), s))))
  putchar_rule a s st k =
      follow w s (value_of a.at a.form s) _ (value_rule w h s a.at a.form st k) (λ x t g st2 k2.
      pure w t (fitted a.at int_type x t) (λ e. int_form (put_character e)) st2 (gives_all _ (λ e. tt)) (λ ag c.
      under _ (λ value. under _ (λ f. gives_more (Fits w h int_type) (λ e. F (int_form (put_character e))) (fitted a.at int_type x t)
      (fitted_rule w h t a.at int_type x c (value f))
      (λ e i. int_typed (put_character e) (refl, subst (λ n. Has w h e (Some n)) (h.numbers Int) i))))))

  released_rule : (at : ℕ) (x : Typed) (v : Value) → x.value ≡ v → IsOperand w x → Gives F (released at x v)
  released_rule at x (address n to) p o =
      record { is = as_operand w h (release x.tree) nothing (refl, seal w n, is_pointer w h n to (address_is w h x n to o p), address_has w h x n to o p) tt }
  released_rule at x v p o =
      by_test F (is_null x) _ _ at (λ e. as_operand w h (discard x.tree) nothing (refl, type_of_value w x.value, o.tree) tt)

  released_known : (at : ℕ) (x : Typed) (v : Value) (s : Scopes) → Gives (λ f. IsKnownForm f s) (released at x v)
  released_known at x (address n to) s = record { is = tt }
  released_known at x v s = by_test (λ f. IsKnownForm f s) (is_null x) _ _ at (λ e. tt)

  free_rule : (a : Argument) (s : Scopes) → IsState s → IsKnownForm a.form s
      → Holds (Leads w IsKnownForm (λ g. F a.form → F g) s)
      (go_on (value_of a.at a.form s) (λ x s. and_then (released a.at x x.value) (λ f. Ok (f, s))))
  free_rule a s st k =
      follow w s (value_of a.at a.form s) _ (value_rule w h s a.at a.form st k) (λ x t g st2 k2.
      pure w t (released a.at x x.value) (λ f. f) st2 (released_known a.at x x.value t) (λ ag c.
      under _ (λ value. under _ (λ f. released_rule a.at x x.value refl (value f)))))

  library_rule : (l : Library) (at : ℕ) (args : List Argument) (s : Scopes) → IsState s → AreKnown args s
      → Holds (Leads w IsKnownForm (λ f. AreForms w h args → F f) s) (library_call l at args s)
  library_rule of_printf at [] s st k = refused w _
  library_rule of_printf at (a ∷ args) s st k =
      so w s _ (printed_rule at a.form a.at args s st k.1) (λ f ag r forms. r forms.0 forms.1)
  library_rule of_puts at (a ∷ []) s st k = so w s _ (puts_rule a.at a.form s st k.0) (λ f ag r forms. r forms.0)
  library_rule of_putchar at (a ∷ []) s st k = so w s _ (putchar_rule a s st k.0) (λ f ag r forms. r forms.0)
  library_rule of_malloc at (a ∷ []) s st k = so w s _ (malloc_rule at a.form s st k.0) (λ f ag r forms. r forms.0)
  library_rule of_calloc at (a ∷ b ∷ []) s st k = so w s _ (calloc_rule at a b.form s st k.0 (k.1).0) (λ f ag r forms. r forms.0 (forms.1).0)
  library_rule of_free at (a ∷ []) s st k = so w s _ (free_rule a s st k.0) (λ f ag r forms. r forms.0)
  library_rule of_checkpoint at [] s st k =
      found w s (operand (typed_as checkpoint nothing)) st tt (λ a c f. as_operand w h checkpoint nothing refl tt)
  library_rule l at args s st k = refused w _

  pub call_rule : (at : ℕ) (f : Form) (args : List Argument) (s : Scopes) → IsState s → AreKnown args s
      → Holds (Leads w IsKnownForm (λ g. F f → AreForms w h args → F g) s) (call_form w.bodies at f args s)
  call_rule at (callee n) args s st k = program_rule w h at n args s st k
  call_rule at (library_callee l) args s st k = so w s _ (library_rule l at args s st k) (λ f ag r name forms. r forms)
  call_rule at f args s st k = refused w _
