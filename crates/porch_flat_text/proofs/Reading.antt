-- How far a text was read, line by line.
use Rattle.std.proofs.Common.{◌≡◌, ℕ, ◌+◌, Bool, true, false, eqb, List, [], ◌∷◌, ◌++◌, length, Option, Some, None, refl, sym, ap, ◌∙◌, append_assoc, append-nil, length-append}
use Rattle.std.specs.List.{concat, AllByRecursion}
use Rattle.porch_types.specs.Leaves.{IsTypes}
use Rattle.porch_flat_text.specs.declared.draft.Draft.{Draft}
use Rattle.porch_flat_text.specs.FirstWrong.{IsLine}
use Rattle.porch_flat_text.specs.inside.Cuts.{line_of}
use Rattle.porch_flat_text.specs.inside.Drafts.{empty_draft, next, run, run_on, Taken}
use Rattle.porch_flat_text.specs.inside.Reads.{HasRead, IsEnded, IsStopped}
use Rattle.porch_flat_text.proofs.Lines.{line_found}

pub concat_append : (xs ys : List (List ℕ)) → concat (xs ++ ys) ≡ concat xs ++ concat ys
concat_append [] ys = refl
concat_append (x ∷ xs) ys = ap (λ t. x ++ t) (concat_append xs ys) ∙ sym (append_assoc x (concat xs) (concat ys))

pub all_push : {X : Type 0} (P : X → Type 0) (xs : List X) (x : X) → AllByRecursion P xs → P x → AllByRecursion P (xs ++ x ∷ [])
all_push P [] x all here = (here, tt)
all_push P (y ∷ ys) x all here = (all.0, all_push P ys x all.1 here)

run_on_append : (o : Option Draft) (xs ys : List (List ℕ)) → ((d : Draft) → run d (xs ++ ys) ≡ run_on (run d xs) (λ e. run e ys))
    → run_on o (λ e. run e (xs ++ ys)) ≡ run_on (run_on o (λ e. run e xs)) (λ e. run e ys)
run_on_append None xs ys further = refl
run_on_append (Some d) xs ys further = further d

pub run_append : (xs ys : List (List ℕ)) (d : Draft) → run d (xs ++ ys) ≡ run_on (run d xs) (λ e. run e ys)
run_append [] ys d = refl
run_append (x ∷ xs) ys d = run_on_append (next d x) xs ys (λ e. run_append xs ys e)

run_one : (o : Option Draft) → run_on o (λ e. Some e) ≡ o
run_one None = refl
run_one (Some d) = refl

pub run_push : (xs : List (List ℕ)) (line : List ℕ) (d e : Draft) → run d xs ≡ Some e → run d (xs ++ line ∷ []) ≡ next e line
run_push xs line d e made = run_append xs (line ∷ []) d ∙ ap (λ o. run_on o (λ f. run f (line ∷ []))) made ∙ run_one (next e line)

taken_next : (o : Option Draft) (taken : Bool) (new : Draft) → taken ≡ true → Taken o taken new → o ≡ Some new
taken_next None taken new true_so t = cc
taken_next (Some d) taken new true_so t = ap Some (sym t.1)

refused_next : (o : Option Draft) (taken : Bool) (new : Draft) → taken ≡ false → Taken o taken new → o ≡ None
refused_next None taken new false_so t = refl
refused_next (Some d) taken new false_so t = let true_so : taken ≡ true = t.0 in cc

pub begun : (text : List ℕ) (d : Draft) → d ≡ empty_draft → IsTypes d.types → HasRead text text 1 d
begun text d e types = record { lines = []; split = refl; whole = tt; number = refl; made = ap (λ x. Some x) (sym e); types = types }

pub goes_on : (text rest line more : List ℕ) (n : ℕ) (d e : Draft) (taken : Bool)
    → HasRead text rest n d → Some (line, more) ≡ line_of rest → taken ≡ true → Taken (next d line) taken e → IsTypes e.types → HasRead text more (n + 1) e
goes_on text rest line more n d e taken read found true_so t types =
    let l = line_found rest line more (sym found) in
    record {
      lines = read.lines ++ line ∷ [];
      split = read.split ∙ ap (λ s. concat read.lines ++ s) l.1 ∙ sym (append_assoc (concat read.lines) line more)
          ∙ ap (λ s. s ++ more) (ap (λ s. concat read.lines ++ s) (sym (append-nil line)) ∙ sym (concat_append read.lines (line ∷ [])));
      whole = all_push IsLine read.lines line read.whole l.0;
      number = ap (λ k. k + 1) read.number ∙ ap (λ k. k + 1) (sym (length-append read.lines (line ∷ [])));
      made = run_push read.lines line empty_draft d read.made ∙ taken_next (next d line) taken e true_so t;
      types = types;
    }

pub stops : (text rest line more : List ℕ) (n : ℕ) (d e : Draft) (taken : Bool)
    → HasRead text rest n d → Some (line, more) ≡ line_of rest → taken ≡ false → Taken (next d line) taken e → IsStopped text n
stops text rest line more n d e taken read found false_so t =
    record { draft = d; rest = rest; line = line; more = more; read = read; found = sym found; refused = refused_next (next d line) taken e false_so t }

pub ends : (text rest : List ℕ) (n : ℕ) (d : Draft) (ended : Bool) → HasRead text rest n d → None ≡ line_of rest → ended ≡ eqb (length rest) 0 → IsEnded text n ended d
ends text rest n d ended read none all = record { rest = rest; read = read; none = sym none; all = all }
