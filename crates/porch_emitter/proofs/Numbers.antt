-- Temporaries by type.
use Rattle.std.proofs.Common.{◌≡◌, ℕ, zero, suc, ◌+◌, ◌-◌, ◌<◌, ◌≤◌, List, [], ◌∷◌, ◌++◌, length, get_or, take, drop, map, replicate, refl, sym, ap, ◌∙◌, arith, append_assoc, append-nil, inl, inr}
use Rattle.std.proofs.Math.Path.{fun_ext}
use Rattle.std.proofs.lemmas.Bool.{cases_lt}
use Rattle.std.proofs.lemmas.Bool.Decides.{nat_tests}
use Rattle.std.proofs.lemmas.List.{get_or_past, take_all, drop_all}
use Rattle.std.proofs.lemmas.List.FromFn.{get_or-map-range_with_len, length-map-range_with_len, map-range_with_len_more}
use Rattle.std.specs.List.{range_with_len}
use Rattle.porch_lowering.specs.Code.{InUse, and_one}
use Rattle.porch_lowering.specs.Lowering.{pool_start, pool_types}
use Rattle.porch_emitter.specs.declared.pools.Pool.{Pool}
use Rattle.porch_emitter.specs.Pools.{no_temporaries, with_number}
use Rattle.porch_emitter.specs.inside.Pools.{counted}

-- those of a type in a list of those of each
abbrev pub pool_at : List Pool → ℕ → Pool
pool_at xs ty = get_or xs ty no_temporaries

abbrev pub most_at : List Pool → InUse
most_at xs ty = (pool_at xs ty).most

pub nothing_behind : (xs : List Pool) (ty : ℕ) → pool_at (xs ++ no_temporaries ∷ []) ty ≡ pool_at xs ty
nothing_behind [] zero = refl
nothing_behind [] (suc ty) = refl
nothing_behind (x ∷ xs) zero = refl
nothing_behind (x ∷ xs) (suc ty) = nothing_behind xs ty

pub counted_at : (xs : List Pool) (ty : ℕ) → pool_at (map counted xs) ty ≡ counted (pool_at xs ty)
counted_at [] ty = refl
counted_at (x ∷ xs) zero = refl
counted_at (x ∷ xs) (suc ty) = counted_at xs ty

-- at the end of the loop that counts
pub all_counted : (old xs ys zs : List Pool) (i : ℕ) → xs ≡ old → length xs ≤ i → ys ≡ map counted (take i xs) ++ drop i xs → zs ≡ ys → (ty : ℕ) → pool_at zs ty ≡ counted (pool_at old ty)
all_counted old xs ys zs i from past done same ty =
    let all : map counted (take i xs) ++ drop i xs ≡ map counted xs =
    ap (λ (l : List Pool). map counted l ++ drop i xs) (take_all i xs past) ∙ ap (λ (l : List Pool). map counted xs ++ l) (drop_all i xs past) ∙ append-nil (map counted xs) in
    let whole : zs ≡ map counted old = same ∙ done ∙ all ∙ ap (map counted) from in
    ap (λ (l : List Pool). pool_at l ty) whole ∙ counted_at old ty

less_at : (old used now : InUse) (ty t n : ℕ) → n ≡ old ty → old t ≡ and_one ty used t → old ty ≡ and_one ty used ty → now t ≡ with_number ty (n - 1) old t → now t ≡ used t
less_at old used now ty t n is there here new = grind (arith, nat_tests)

-- one more in use, and one less
pub one_more : (used : InUse) (ty n more : ℕ) → n ≡ used ty → more ≡ n + 1 → with_number ty more used ≡ and_one ty used
one_more used ty n more now next =
    let at : (t : ℕ) → with_number ty more used t ≡ and_one ty used t = λ t. grind (arith, nat_tests) in
    fun_ext at

pub one_less : (old used now : InUse) (ty n : ℕ) → n ≡ old ty → old ≡ and_one ty used → ((t : ℕ) → now t ≡ with_number ty (n - 1) old t) → now ≡ used
one_less old used now ty n is one each =
    let at_each : (t : ℕ) → old t ≡ and_one ty used t = λ t. ap (λ (f : InUse). f t) one in
    let at : (t : ℕ) → now t ≡ used t = λ t. less_at old used now ty t n is (at_each t) (at_each ty) (each t) in
    fun_ext at

pub one_used : (old used : InUse) (ty : ℕ) → old ty ≡ and_one ty used ty → 0 < old ty
one_used old used ty here = grind (arith, nat_tests)

-- behind the last type that has temporaries all begin at one number
start_past : (variables : ℕ) (xs : List Pool) (n k : ℕ) → length xs ≤ n → pool_start variables (most_at xs) (n + k) ≡ pool_start variables (most_at xs) n
start_past v xs n zero past = let same : n + zero ≡ n = omega arith in ap (pool_start v (most_at xs)) same
start_past v xs n (suc k) past =
    let next : n + suc k ≡ suc (n + k) = omega arith in
    let none : most_at xs (n + k) ≡ 0 = ap (λ (p : Pool). p.most) (get_or_past xs (n + k) no_temporaries (omega arith)) in
    let same = start_past v xs n k past in
    ap (pool_start v (most_at xs)) next ∙ omega (arith, none, same)

pub start_more : (variables : ℕ) (pools : InUse) (i at next most : ℕ) → at ≡ pool_start variables pools i → most ≡ pools i → next ≡ at + most → next ≡ pool_start variables pools (i + 1)
start_more v pools i at next most here own sum =
    let more : next ≡ pool_start v pools (suc i) = omega (arith, here, own, sum) in
    let one : suc i ≡ i + 1 = omega arith in
    more ∙ ap (pool_start v pools) one

pub starts_more : (f : ℕ → ℕ) (i at : ℕ) (before after : List ℕ) → before ≡ map f (range_with_len 0 i) → after ≡ before ++ at ∷ [] → at ≡ f i → after ≡ map f (range_with_len 0 (i + 1))
starts_more f i at before after done pushed here =
    let more = map-range_with_len_more f 0 i i (omega arith) in
    pushed ∙ ap (λ (l : List ℕ). l ++ at ∷ []) done ∙ ap (λ (n : ℕ). map f (range_with_len 0 i) ++ n ∷ []) here ∙ sym more

pub starts_at : (variables : ℕ) (xs : List Pool) (starts : List ℕ) (other n ty : ℕ) → n ≡ length xs → starts ≡ map (pool_start variables (most_at xs)) (range_with_len 0 n) → other ≡ pool_start variables (most_at xs) n → get_or starts ty other ≡ pool_start variables (most_at xs) ty
starts_at v xs starts other n ty whole all last =
    let f : ℕ → ℕ = pool_start v (most_at xs) in
    let size : length starts ≡ n = ap length all ∙ length-map-range_with_len f 0 n in
    elim (cases_lt ty n) [
      | inl less ↦ ap (λ (l : List ℕ). get_or l ty other) all ∙ get_or-map-range_with_len f 0 n ty ty other less (omega arith)
      | inr past ↦
          (let behind : n + (ty - n) ≡ ty = omega arith in
          get_or_past starts ty other (omega arith) ∙ last ∙ sym (start_past v xs n (ty - n) (omega arith)) ∙ ap f behind)
    ]

pub types_more : (pools : InUse) (before after : List ℕ) (ty n most : ℕ) → after ≡ before ++ replicate most ty → most ≡ pools ty → ty < n → after ++ pool_types pools (range_with_len (ty + 1) (n - (ty + 1))) ≡ before ++ pool_types pools (range_with_len ty (n - ty))
types_more pools before after ty n most added own less =
    let rest : List ℕ = pool_types pools (range_with_len (ty + 1) (n - (ty + 1))) in
    let one : suc (n - (ty + 1)) ≡ n - ty = omega arith in
    ap (λ (l : List ℕ). l ++ rest) added ∙ ap (λ (m : ℕ). (before ++ replicate m ty) ++ rest) own
    ∙ append_assoc before (replicate (pools ty) ty) rest
    ∙ ap (λ (k : ℕ). before ++ pool_types pools (range_with_len ty k)) one
