-- Which parameters are the one word `void`.
use Rattle.std.proofs.Common.{◌≡◌, ℕ, Bool, true, false, ◌&&◌, if◌then◌else◌, List, [], ◌∷◌, ◌++◌, map, Result, Ok, Err, IfOk, refl, sym, ap}
use Rattle.porch_tree.specs.declared.tree.Bracket as code_bracket
use Rattle.porch_tree.specs.declared.tree.Param as code_param
use Rattle.porch_tree.specs.Mirror.{Base, Declarator, declarator, Core, lacking, named, inner, Bracket, void_list, param_list, Param, param}
use Rattle.porch_tree.specs.Views.{bracket_of, brackets_of, param_of, params_of}
use Rattle.porch_parts.specs.Types.{is_lacking, is_empty, is_bare_void, is_void, parameters}

pub when_ok : {A E : Type 0} {P Q : A → Type 0} (r : Result A E) → ((x : A) → P x → Q x) → IfOk r P → IfOk r Q
when_ok (Ok x) f h = f x h
when_ok (Err e) f h = tt

pub some_stars : (at : ℕ) (ss : List ℕ) (c : Core) (bs : List Bracket) → (ss ≡ [] → ⊥) → false ≡ is_empty (declarator at ss c (brackets_of bs))
some_stars at [] c bs h = absurd (h refl)
some_stars at (s ∷ ss) c bs h = refl

pub some_brackets : (text : List ℕ) (at : ℕ) (ss : List ℕ) (c : Core) (bs : List code_bracket.Bracket) → (bs ≡ [] → ⊥) → false ≡ is_empty (declarator at ss c (brackets_of (map (bracket_of text) bs)))
some_brackets text at ss c [] h = absurd (h refl)
some_brackets text at (s ∷ ss) c (b ∷ bs) h = refl
some_brackets text at [] lacking (b ∷ bs) h = refl
some_brackets text at [] (named n) (b ∷ bs) h = refl
some_brackets text at [] (inner k d) (b ∷ bs) h = refl

pub bare : (text : List ℕ) (at : ℕ) (ss : List ℕ) (c : Core) (bs : List code_bracket.Bracket) → ss ≡ [] → bs ≡ [] → is_lacking c ≡ is_empty (declarator at ss c (brackets_of (map (bracket_of text) bs)))
bare text at (s ∷ ss) c bs h k = cc
bare text at [] c (b ∷ bs) h k = cc
bare text at [] lacking [] h k = refl
bare text at [] (named n) [] h k = refl
bare text at [] (inner j d) [] h k = refl

pub some_params : (text : List ℕ) (ps : List code_param.Param) (p : Param) → (ps ≡ [] → ⊥) → false ≡ is_void (map (param_of text) ps ++ p ∷ [])
some_params text [] p h = absurd (h refl)
some_params text (q ∷ []) p h = refl
some_params text (q ∷ r ∷ ps) p h = refl

pub other_param : (text : List ℕ) (ps : List code_param.Param) (b : Base) (d : Declarator) → ps ≡ [] → is_bare_void b ≡ false → false ≡ is_void (map (param_of text) ps ++ param b d ∷ [])
other_param text [] b d h k = ap (λ z. z && is_empty d) (sym k)
other_param text (q ∷ ps) b d h k = cc

pub first_param : (text : List ℕ) (ps : List code_param.Param) (b : Base) (d : Declarator) → ps ≡ [] → is_bare_void b ≡ true → is_empty d ≡ is_void (map (param_of text) ps ++ param b d ∷ [])
first_param text [] b d h k = ap (λ z. z && is_empty d) (sym k)
first_param text (q ∷ ps) b d h k = cc

pub parameters_void : (xs : List Param) → true ≡ is_void xs → void_list ≡ parameters xs
parameters_void xs h = ap (λ (b : Bool). if b then void_list else param_list (params_of xs)) h

pub parameters_some : (xs : List Param) → false ≡ is_void xs → param_list (params_of xs) ≡ parameters xs
parameters_some xs h = ap (λ (b : Bool). if b then void_list else param_list (params_of xs)) h

pub not_both : (b : Bool) → b ≡ true → b ≡ false → ⊥
not_both b h k = cc
