-- Objects that are put into the data one after the other are known, follow one another and end within it.
use Rattle.std.proofs.Common.{◌≡◌, ℕ, zero, suc, ◌+◌, ◌*◌, ◌<◌, ◌≤◌, ◌⊎◌, inl, inr, List, [], ◌∷◌, ◌++◌, length, slice_get, Some, All, refl, ap, subst, arith}
use Rattle.std.specs.List.{fold}
use Rattle.std.proofs.lemmas.List.Elements.{All-head, All-tail}
use Rattle.std.proofs.lemmas.Option.{slice_get_within, same_Some, none-some}
use Rattle.porch_types.specs.declared.shapes.Ty.{Ty}
use Rattle.porch_metrics.specs.Extents.{extent_of, ucf_layout}
use Rattle.porch_find.specs.declared.roots.Root.{Root}
use Rattle.porch_points.specs.Plans.{AreKnown, FollowOn, end_of}
use Rattle.porch_ucf.specs.declared.image.BlockRow.{BlockRow}
use Rattle.porch_ucf.specs.Objects.{Placed, put_behind, nothing_placed, placed}
use Rattle.porch_ucf.specs.inside.Leaves.{ArePlaced, EndWithin}

pub at_end : {X : Type 0} (xs : List X) (x : X) (i : ℕ) (a : X) → slice_get (xs ++ x ∷ []) i ≡ Some a → (slice_get xs i ≡ Some a) ⊎ ((i ≡ length xs) × (x ≡ a))
at_end [] x zero a e = inr (refl, same_Some x a e)
at_end [] x (suc i) a e = absurd (none-some a e)
at_end (y ∷ xs) x zero a e = inl e
at_end (y ∷ xs) x (suc i) a e = elim (at_end xs x i a e) [ inl old ↦ inl old | inr last ↦ inr (ap (λ n. suc n) last.0, last.1) ]

module _ (types : List Ty) where
  record InOrder (p : Placed) : Type 0 where
    known : AreKnown types p.roots
    follow : FollowOn ucf_layout types p.roots
    within : EndWithin types p.roots p.end

  none_in_order : InOrder nothing_placed
  none_in_order = record {
    known = λ i a e. absurd (none-some a e);
    follow = λ i j a b lt e f. absurd (none-some a e);
    within = λ i a e. absurd (none-some a e);
  }

  -- the object that is put last
  last_root : Placed → BlockRow → Root
  last_root p o = record { at = p.end; ty = o.ty; count = o.count }

  one_more : (p : Placed) (o : BlockRow) → o.ty < length types → InOrder p → InOrder (put_behind types p o)
  one_more p o lt h = record {
    known = λ i a e.
        elim (at_end p.roots (record { at = p.end; ty = o.ty; count = o.count }) i a e) [
          | inl old ↦ h.known i a old
          | inr last ↦ subst (λ (r : Root). r.ty < length types) last.1 lt
        ];
    follow = λ i j a b less e f.
        elim (at_end p.roots (record { at = p.end; ty = o.ty; count = o.count }) j b f) [
          | inl later ↦ elim (at_end p.roots (record { at = p.end; ty = o.ty; count = o.count }) i a e) [
            | inl old ↦ h.follow i j a b less old later
            | inr last ↦ absurd (omega (arith, less, last.0, slice_get_within p.roots j b later))
          ]
          | inr final ↦ elim (at_end p.roots (record { at = p.end; ty = o.ty; count = o.count }) i a e) [
            | inl old ↦ let begin = ap (λ (r : Root). r.at) final.1 in omega (arith, begin, h.within i a old)
            | inr last ↦ absurd (omega (arith, less, last.0, final.0))
          ]
        ];
    within = λ i a e.
        elim (at_end p.roots (record { at = p.end; ty = o.ty; count = o.count }) i a e) [
          | inl old ↦ omega (arith, h.within i a old)
          | inr last ↦ subst (λ (r : Root). end_of ucf_layout types r ≤ p.end + o.count * (extent_of ucf_layout types o.ty).size) last.1 (omega arith)
        ];
  }

  all_in_order : (objects : List BlockRow) (p : Placed) → All (λ o. o.ty < length types) objects → InOrder p → InOrder (fold (put_behind types) p objects)
  all_in_order [] p known h = h
  all_in_order (o ∷ objects) p known h =
      all_in_order objects (put_behind types p o) (All-tail (λ o. o.ty < length types) o objects known)
      (one_more p o (All-head (λ o. o.ty < length types) o objects known) h)

  module _ (objects : List BlockRow) (known : All (λ o. o.ty < length types) objects) where
    in_order : InOrder (placed types objects)
    in_order = all_in_order objects nothing_placed known none_in_order

    pub are_placed : ArePlaced types (placed types objects).roots
    are_placed = record { known = in_order.known; follow = in_order.follow }

    pub end_within : EndWithin types (placed types objects).roots (placed types objects).end
    end_within = in_order.within
