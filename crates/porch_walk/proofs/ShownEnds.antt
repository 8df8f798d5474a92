-- What brings a walk to its end shows no use of what was read before.
use Rattle.std.proofs.Common.{◌≡◌, ℕ, suc, ◌+◌, Bool, true, false, if◌then◌else◌, List, [], ◌∷◌, Some, None, refl, sym, subst}
use Rattle.porch_tree.specs.declared.word.Mark.TheVariants as mark
use Rattle.porch_tree.specs.declared.word.Keyword.TheVariants as key
use Rattle.porch_tree.specs.declared.word.Word.{Word}
use Rattle.porch_tree.specs.declared.word.Word.TheVariants as word
use Rattle.porch_tree.specs.Pieces.{Spelled, Piece}
use Rattle.porch_walk.specs.declared.symbol.Mode.TheVariants as mode
use Rattle.porch_walk.specs.declared.symbol.Naming.TheVariants as naming
use Rattle.porch_walk.specs.declared.symbol.Symbol.{Symbol}
use Rattle.porch_walk.specs.declared.symbol.Symbol.TheVariants.{Must, Operand, Open, Texts, Suffixes, Behind, Commas, Optional, Base, Kind, Consts, Tag, TagBody, Fields, MoreDeclarators, ConstantValue, Constants, Declarator, Pointer, Nameless, Brackets, Counts, Count, Parameters, Void, MoreParameters, Entries, Entry, MoreEntries, Initial, MoreInitials, NextInitial, FileEntries, FirstEntry, EndTypedef, Body, Statements, Statement, Else, Cases}
use Rattle.porch_walk.specs.declared.level.Level.{Level}
use Rattle.porch_walk.specs.Walk.{Stage, is, is_key, heard, behind}
use Rattle.porch_walk.specs.Plans.{plan}
use Rattle.porch_walk.specs.Levels.{top, under}
use Rattle.porch_walk.proofs.Passes.{Heads, closes, ends, follows, leaves, behind_base, not_text, closes_are_ends, ends_are_parts, parts_are_follows, at}
use Rattle.porch_walk.proofs.Words.{itself}
use Rattle.porch_walk.proofs.Accepts.{leaves_no_const}
use Rattle.porch_walk.proofs.Completes.{by, completion, Good, brace, brace_is, no_else, flipped, not_name_closes, last_good}
use Rattle.porch_walk.proofs.Owing.{Seen, seen, Owes, nothing, owing, even, right_from, IsRight, Rt, knows_piece, left_out}
use Rattle.porch_walk.proofs.ShownUses.{AreAlike}
use Rattle.porch_walk.proofs.LeftOut.{off}
use Rattle.porch_walk.proofs.LeftOut as out

-- pieces that lie in these uses
abbrev pub with_uses : List ℕ → List Piece → List Piece
with_uses us [] = []
with_uses [] (p ∷ ps) = p ∷ with_uses [] ps
with_uses (u ∷ us) (p ∷ ps) = record p { uses = u } ∷ with_uses us ps

pub alike_uses : (us : List ℕ) (ts : List Spelled) (ps : List Piece) → AreAlike ts ps → AreAlike ts (with_uses us ps)
alike_uses us [] [] h = h
alike_uses us [] (p ∷ ps) h = absurd h
alike_uses us (t ∷ ts) [] h = absurd h
alike_uses [] (t ∷ ts) (p ∷ ps) h = (h.0, alike_uses [] ts ps h.1)
alike_uses (u ∷ us) (t ∷ ts) (p ∷ ps) h = (record { word = h.0.word; bytes = h.0.bytes }, alike_uses us ts ps h.1)

heads_with : (class : Word → Bool) (us : List ℕ) (ps : List Piece) → Heads class ps → Heads class (with_uses us ps)
heads_with class us [] h = h
heads_with class [] (p ∷ ps) h = h
heads_with class (u ∷ us) (p ∷ ps) h = h

-- From here on these pieces, in some uses, show just these.
pub record Ends (s : Stage) (ls : List Level) (os : List Seen) (ps : List Piece) : Type 0 where
  pub uses : List ℕ
  pub right : IsRight s ls os (with_uses uses ps)

-- the pieces that are to come follow an operand
ending_follows : (ps : List Piece) → Heads closes ps → Heads follows ps
ending_follows ps h = parts_are_follows ps (ends_are_parts ps (closes_are_ends ps h))

at_top : (types : List (List ℕ)) (i : Bool) (f : List ℕ) (s : Symbol) (ss : List Symbol) (ls : List Level) (os : List Seen) (ps : List Piece)
    → Rt types i f (s ∷ ss) (top ls ∷ under ls) os ps → Rt types i f (s ∷ ss) ls os ps
at_top types i f s ss [] os [] h = h
at_top types i f s ss [] os (p ∷ ps) h = h
at_top types i f s ss (l ∷ ls) os ps h = h

brace_out : (types : List (List ℕ)) (i : Bool) (f : List ℕ) (s : Symbol) (ss : List Symbol) (l : Level) (ls : List Level) (os : List Seen) (ps : List Piece)
    → ((bs : List ℕ) → behind types f i (s ∷ ss) (heard (word.Mark mark.CloseBrace) bs) ≡ behind types f i ss (heard (word.Mark mark.CloseBrace) bs))
    → ((known : Bool) → plan (word.Mark mark.CloseBrace) known s ≡ None) → Heads brace ps → Rt types i f ss ls os ps → Rt types i f (s ∷ ss) (l ∷ ls) os ps
brace_out types i f s ss l ls os [] e g h r = absurd h
brace_out types i f s ss l ls os (p ∷ ps) e g h r =
    left_out types i f s ss l ls os p ps
    (subst (λ v. behind types f i (s ∷ ss) (heard v p.bytes) ≡ behind types f i ss (heard v p.bytes)) (sym (brace_is p.word h)) (e p.bytes))
    (subst (λ v. plan v (knows_piece types i p) s ≡ None) (sym (brace_is p.word h)) (g (knows_piece types i p))) r

else_out : (types : List (List ℕ)) (i : Bool) (f : List ℕ) (ss : List Symbol) (l : Level) (ls : List Level) (os : List Seen) (ps : List Piece) → Heads no_else ps → Rt types i f ss ls os ps → Rt types i f (Else ∷ ss) (l ∷ ls) os ps
else_out types i f ss l ls os [] h r = absurd h
else_out types i f ss l ls os (p ∷ ps) h r = left_out types i f Else ss l ls os p ps (off _ _ (flipped (is_key key.Else p.word) h)) (off _ _ (flipped (is_key key.Else p.word) h)) r

pub ends_right : (ss : List Symbol) (types : List (List ℕ)) (f : List ℕ) (i : Bool) (ls : List Level) (os : List Seen) → Good i ss → Owes 0 [] os → Ends (at types i f ss) ls os (completion i ss)
ends_right [] types f false ls os g o = record { uses = []; right = o }
ends_right [] types f true ls os g o = record { uses = 1 ∷ []; right = owing even o }
ends_right (Must w ∷ ss) types f i ls os g o =
    let u = (top ls).uses + 0 in
    let r = ends_right ss types f i (under ls) (seen u u ∷ os) g.1 (owing even o) in
    record {
      uses = u ∷ r.uses;
      right = subst (λ (b : Bool). right_from (if b then Some (at types i f ss) else None) (λ next. IsRight next (under ls) (seen u u ∷ os) (with_uses r.uses (completion i ss)))) (sym (itself w)) r.right;
    }
ends_right (Texts ∷ ss) types f i ls os g o =
    let r = ends_right ss types f i (under ls) os g.1 o in
    record { uses = r.uses; right = at_top types i f (Texts) ss ls os (with_uses r.uses (completion i ss)) (out.pass_texts types i f ss (top ls) (under ls) os (with_uses r.uses (completion i ss)) (not_name_closes (with_uses r.uses (completion i ss)) (heads_with closes r.uses (completion i ss) g.0)) r.right) }
ends_right (Suffixes ∷ ss) types f i ls os g o =
    let r = ends_right ss types f i (under ls) os g.1 o in
    record { uses = r.uses; right = at_top types i f (Suffixes) ss ls os (with_uses r.uses (completion i ss)) (out.pass_suffixes types i f ss (top ls) (under ls) os (with_uses r.uses (completion i ss)) (ending_follows (with_uses r.uses (completion i ss)) (heads_with closes r.uses (completion i ss) g.0)) r.right) }
ends_right (Commas ∷ ss) types f i ls os g o =
    let r = ends_right ss types f i (under ls) os g.1 o in
    record { uses = r.uses; right = at_top types i f (Commas) ss ls os (with_uses r.uses (completion i ss)) (out.pass_commas types i f ss (top ls) (under ls) os (with_uses r.uses (completion i ss)) (heads_with closes r.uses (completion i ss) g.0) r.right) }
ends_right (Optional ∷ ss) types f i ls os g o =
    let r = ends_right ss types f i (under ls) os g.1 o in
    record { uses = r.uses; right = at_top types i f (Optional) ss ls os (with_uses r.uses (completion i ss)) (out.pass_optional types i f ss (top ls) (under ls) os (with_uses r.uses (completion i ss)) (heads_with closes r.uses (completion i ss) g.0) r.right) }
ends_right (ConstantValue ∷ ss) types f i ls os g o =
    let r = ends_right ss types f i (under ls) os g.1 o in
    record { uses = r.uses; right = at_top types i f (ConstantValue) ss ls os (with_uses r.uses (completion i ss)) (out.pass_value types i f ss (top ls) (under ls) os (with_uses r.uses (completion i ss)) (closes_are_ends (with_uses r.uses (completion i ss)) (heads_with closes r.uses (completion i ss) g.0)) r.right) }
ends_right (Behind u ∷ ss) types f i ls os g o =
    let r = ends_right ss types f i (under ls) os g.1 o in
    record { uses = r.uses; right = at_top types i f (Behind u) ss ls os (with_uses r.uses (completion i ss)) (out.pass_behind types i u f ss (top ls) (under ls) os (with_uses r.uses (completion i ss)) (closes_are_ends (with_uses r.uses (completion i ss)) (heads_with closes r.uses (completion i ss) g.0)) r.right) }
ends_right (Consts ∷ ss) types f i ls os g o =
    let r = ends_right ss types f i (under ls) os g.1 o in
    record { uses = r.uses; right = at_top types i f (Consts) ss ls os (with_uses r.uses (completion i ss)) (out.pass_consts types i f ss (top ls) (under ls) os (with_uses r.uses (completion i ss)) (heads_with behind_base r.uses (completion i ss) g.0) r.right) }
ends_right (Kind s ∷ ss) types f i ls os g o =
    let r = ends_right ss types f i (under ls) os g.1 o in
    record { uses = r.uses; right = at_top types i f (Kind s) ss ls os (with_uses r.uses (completion i ss)) (out.pass_kind types i s f ss (top ls) (under ls) os (with_uses r.uses (completion i ss)) (heads_with behind_base r.uses (completion i ss) g.0) r.right) }
ends_right (TagBody s ∷ ss) types f i ls os g o =
    let r = ends_right ss types f i (under ls) os g.1 o in
    record { uses = r.uses; right = at_top types i f (TagBody s) ss ls os (with_uses r.uses (completion i ss)) (out.pass_tag types i s f ss (top ls) (under ls) os (with_uses r.uses (completion i ss)) (heads_with behind_base r.uses (completion i ss) g.0) r.right) }
ends_right (Brackets ∷ ss) types f i ls os g o =
    let r = ends_right ss types f i (under ls) os g.1 o in
    record { uses = r.uses; right = at_top types i f (Brackets) ss ls os (with_uses r.uses (completion i ss)) (out.pass_brackets types i f ss (top ls) (under ls) os (with_uses r.uses (completion i ss)) (heads_with leaves r.uses (completion i ss) g.0) r.right) }
ends_right (Counts ∷ ss) types f i ls os g o =
    let r = ends_right ss types f i (under ls) os g.1 o in
    record { uses = r.uses; right = at_top types i f (Counts) ss ls os (with_uses r.uses (completion i ss)) (out.pass_counts types i f ss (top ls) (under ls) os (with_uses r.uses (completion i ss)) (heads_with leaves r.uses (completion i ss) g.0) r.right) }
ends_right (Else ∷ ss) types f i ls os g o =
    let r = ends_right ss types f i (under ls) os g.1 o in
    record { uses = r.uses; right = at_top types i f (Else) ss ls os (with_uses r.uses (completion i ss)) (else_out types i f ss (top ls) (under ls) os (with_uses r.uses (completion i ss)) (heads_with no_else r.uses (completion i ss) g.0) r.right) }
ends_right (Body ∷ ss) types f i ls os g o =
    let r = ends_right ss types f i (under ls) os g.1 o in
    record { uses = r.uses; right = at_top types i f Body ss ls os (with_uses r.uses (completion i ss)) (brace_out types i f Body ss (top ls) (under ls) os (with_uses r.uses (completion i ss)) (λ bs. refl) (λ known. refl) (heads_with brace r.uses (completion i ss) g.0) r.right) }
ends_right (Statements ∷ ss) types f i ls os g o =
    let r = ends_right ss types f i (under ls) os g.1 o in
    record { uses = r.uses; right = at_top types i f Statements ss ls os (with_uses r.uses (completion i ss)) (brace_out types i f Statements ss (top ls) (under ls) os (with_uses r.uses (completion i ss)) (λ bs. refl) (λ known. refl) (heads_with brace r.uses (completion i ss) g.0) r.right) }
ends_right (Cases ∷ ss) types f i ls os g o =
    let r = ends_right ss types f i (under ls) os g.1 o in
    record { uses = r.uses; right = at_top types i f Cases ss ls os (with_uses r.uses (completion i ss)) (brace_out types i f Cases ss (top ls) (under ls) os (with_uses r.uses (completion i ss)) (λ bs. refl) (λ known. refl) (heads_with brace r.uses (completion i ss) g.0) r.right) }
ends_right (Declarator naming.May ∷ ss) types f i ls os g o =
    let r = ends_right ss types f i (under ls) os g.1 o in
    record { uses = r.uses; right = at_top types i f (Declarator naming.May) ss ls os (with_uses r.uses (completion i ss)) (out.pass_declarator types i naming.May f ss (top ls) (under ls) os (with_uses r.uses (completion i ss)) refl (heads_with leaves r.uses (completion i ss) g.0) r.right) }
ends_right (Pointer naming.May ∷ ss) types f i ls os g o =
    let r = ends_right ss types f i (under ls) os g.1 o in
    let h = heads_with leaves r.uses (completion i ss) g.0 in
    record { uses = r.uses; right = at_top types i f (Pointer naming.May) ss ls os (with_uses r.uses (completion i ss)) (out.after_star types i naming.May f ss (top ls) (under ls) os (with_uses r.uses (completion i ss)) (leaves_no_const types i (with_uses r.uses (completion i ss)) h) (out.pass_declarator types i naming.May f ss (top ls) (under ls) os (with_uses r.uses (completion i ss)) refl h r.right)) }
ends_right (Declarator naming.Abstract ∷ ss) types f i ls os g o =
    let r = ends_right ss types f i (under ls) os g.1 o in
    record { uses = r.uses; right = at_top types i f (Declarator naming.Abstract) ss ls os (with_uses r.uses (completion i ss)) (out.pass_declarator types i naming.Abstract f ss (top ls) (under ls) os (with_uses r.uses (completion i ss)) refl (heads_with leaves r.uses (completion i ss) g.0) r.right) }
ends_right (Pointer naming.Abstract ∷ ss) types f i ls os g o =
    let r = ends_right ss types f i (under ls) os g.1 o in
    let h = heads_with leaves r.uses (completion i ss) g.0 in
    record { uses = r.uses; right = at_top types i f (Pointer naming.Abstract) ss ls os (with_uses r.uses (completion i ss)) (out.after_star types i naming.Abstract f ss (top ls) (under ls) os (with_uses r.uses (completion i ss)) (leaves_no_const types i (with_uses r.uses (completion i ss)) h) (out.pass_declarator types i naming.Abstract f ss (top ls) (under ls) os (with_uses r.uses (completion i ss)) refl h r.right)) }
ends_right (Fields ∷ ss) types f i ls os g o =
    let u = (top ls).uses + 0 in
    let r = ends_right ss types f i (under ls) (seen u u ∷ os) g (owing even o) in
    record { uses = u ∷ r.uses; right = r.right }
ends_right (MoreDeclarators ∷ ss) types f i ls os g o =
    let u = (top ls).uses + 0 in
    let r = ends_right ss types f i (under ls) (seen u u ∷ os) g (owing even o) in
    record { uses = u ∷ r.uses; right = r.right }
ends_right (Constants ∷ ss) types f i ls os g o =
    let u = (top ls).uses + 0 in
    let r = ends_right ss types f i (under ls) (seen u u ∷ os) g (owing even o) in
    record { uses = u ∷ r.uses; right = r.right }
ends_right (Count ∷ ss) types f i ls os g o =
    let u = (top ls).uses + 0 in
    let r = ends_right ss types f i (under ls) (seen u u ∷ os) g (owing even o) in
    record { uses = u ∷ r.uses; right = r.right }
ends_right (Parameters ∷ ss) types f i ls os g o =
    let u = (top ls).uses + 0 in
    let r = ends_right ss types f i (under ls) (seen u u ∷ os) g (owing even o) in
    record { uses = u ∷ r.uses; right = r.right }
ends_right (Void ∷ ss) types f i ls os g o =
    let u = (top ls).uses + 0 in
    let r = ends_right ss types f i (under ls) (seen u u ∷ os) g (owing even o) in
    record { uses = u ∷ r.uses; right = r.right }
ends_right (MoreParameters ∷ ss) types f i ls os g o =
    let u = (top ls).uses + 0 in
    let r = ends_right ss types f i (under ls) (seen u u ∷ os) g (owing even o) in
    record { uses = u ∷ r.uses; right = r.right }
ends_right (Entries ∷ ss) types f i ls os g o =
    let u = (top ls).uses + 0 in
    let r = ends_right ss types f i (under ls) (seen u u ∷ os) g (owing even o) in
    record { uses = u ∷ r.uses; right = r.right }
ends_right (Entry ∷ ss) types f i ls os g o =
    let u = (top ls).uses + 0 in
    let r = ends_right ss types f i (under ls) (seen u u ∷ os) g (owing even o) in
    record { uses = u ∷ r.uses; right = r.right }
ends_right (MoreEntries ∷ ss) types f i ls os g o =
    let u = (top ls).uses + 0 in
    let r = ends_right ss types f i (under ls) (seen u u ∷ os) g (owing even o) in
    record { uses = u ∷ r.uses; right = r.right }
ends_right (MoreInitials ∷ ss) types f i ls os g o =
    let u = (top ls).uses + 0 in
    let r = ends_right ss types f i (under ls) (seen u u ∷ os) g (owing even o) in
    record { uses = u ∷ r.uses; right = r.right }
ends_right (NextInitial ∷ ss) types f i ls os g o =
    let u = (top ls).uses + 0 in
    let r = ends_right ss types f i (under ls) (seen u u ∷ os) g (owing even o) in
    record { uses = u ∷ r.uses; right = r.right }
ends_right (FileEntries ∷ ss) types f i ls os g o =
    let u = (top ls).uses + 0 in
    let r = ends_right ss types f i (under ls) (seen u u ∷ os) (last_good i ss g) (owing even o) in
    record { uses = u ∷ r.uses; right = r.right }
ends_right (FirstEntry ∷ ss) types f i ls os g o =
    let u = (top ls).uses + 0 in
    let r = ends_right ss types f i (under ls) (seen u u ∷ os) (last_good i ss g) (owing even o) in
    record { uses = u ∷ r.uses; right = r.right }
ends_right (EndTypedef ∷ ss) types f i ls os g o =
    let u = (top ls).uses + 0 in
    let r = ends_right ss (f ∷ types) f i (under ls) (seen u u ∷ os) g (owing even o) in
    record { uses = u ∷ r.uses; right = r.right }
ends_right (Statement ∷ ss) types f i ls os g o =
    let u = (top ls).uses + 1 in
    let r = ends_right ss types f i (under ls) (seen u u ∷ os) g.1 (owing even o) in
    record { uses = u ∷ r.uses; right = r.right }
ends_right (Operand mode.Assign ∷ ss) types f i ls os g o =
    let u = (top ls).uses + 1 in
    let r = ends_right ss types f i (under ls) (seen u u ∷ os) g.1 (owing even o) in
    record { uses = u ∷ r.uses; right = out.pass_suffixes types i f (Behind true ∷ ss) _ _ _ (with_uses r.uses (completion i ss)) (ending_follows (with_uses r.uses (completion i ss)) (heads_with closes r.uses (completion i ss) g.0)) (out.pass_behind types i true f ss _ _ _ (with_uses r.uses (completion i ss)) (closes_are_ends (with_uses r.uses (completion i ss)) (heads_with closes r.uses (completion i ss) g.0)) r.right) }
ends_right (Operand mode.Cond ∷ ss) types f i ls os g o =
    let u = (top ls).uses + 1 in
    let r = ends_right ss types f i (under ls) (seen u u ∷ os) g.1 (owing even o) in
    record { uses = u ∷ r.uses; right = out.pass_suffixes types i f (Behind false ∷ ss) _ _ _ (with_uses r.uses (completion i ss)) (ending_follows (with_uses r.uses (completion i ss)) (heads_with closes r.uses (completion i ss) g.0)) (out.pass_behind types i false f ss _ _ _ (with_uses r.uses (completion i ss)) (closes_are_ends (with_uses r.uses (completion i ss)) (heads_with closes r.uses (completion i ss) g.0)) r.right) }
ends_right (Operand mode.Cast ∷ ss) types f i ls os g o =
    let u = (top ls).uses + 1 in
    let r = ends_right ss types f i (under ls) (seen u u ∷ os) g.1 (owing even o) in
    record { uses = u ∷ r.uses; right = out.pass_suffixes types i f (ss) _ _ _ (with_uses r.uses (completion i ss)) (ending_follows (with_uses r.uses (completion i ss)) (heads_with closes r.uses (completion i ss) g.0)) (r.right) }
ends_right (Operand mode.Unary ∷ ss) types f i ls os g o =
    let u = (top ls).uses + 1 in
    let r = ends_right ss types f i (under ls) (seen u u ∷ os) g.1 (owing even o) in
    record { uses = u ∷ r.uses; right = out.pass_suffixes types i f (ss) _ _ _ (with_uses r.uses (completion i ss)) (ending_follows (with_uses r.uses (completion i ss)) (heads_with closes r.uses (completion i ss) g.0)) (r.right) }
ends_right (Operand mode.Size ∷ ss) types f i ls os g o =
    let u = (top ls).uses + 1 in
    let r = ends_right ss types f i (under ls) (seen u u ∷ os) g.1 (owing even o) in
    record { uses = u ∷ r.uses; right = out.pass_suffixes types i f (ss) _ _ _ (with_uses r.uses (completion i ss)) (ending_follows (with_uses r.uses (completion i ss)) (heads_with closes r.uses (completion i ss) g.0)) (r.right) }
ends_right (Initial ∷ ss) types f i ls os g o =
    let u = (top ls).uses + 2 in
    let r = ends_right ss types f i (under ls) (seen u u ∷ os) g.1 (owing even o) in
    record { uses = u ∷ r.uses; right = out.pass_suffixes types i f (Behind true ∷ ss) _ _ _ (with_uses r.uses (completion i ss)) (ending_follows (with_uses r.uses (completion i ss)) (heads_with closes r.uses (completion i ss) g.0)) (out.pass_behind types i true f ss _ _ _ (with_uses r.uses (completion i ss)) (closes_are_ends (with_uses r.uses (completion i ss)) (heads_with closes r.uses (completion i ss) g.0)) r.right) }
ends_right (Base ∷ ss) types f i ls os g o =
    let u = (top ls).uses + 0 in
    let r = ends_right ss types f i (under ls) (seen u u ∷ os) g.1 (owing even o) in
    record { uses = u ∷ r.uses; right = out.pass_kind types i _ f ss _ _ _ (with_uses r.uses (completion i ss)) (heads_with behind_base r.uses (completion i ss) g.0) r.right }
ends_right (Tag s ∷ ss) types f i ls os g o =
    let u = (top ls).uses + 0 in
    let r = ends_right ss types f i (under ls) (seen u u ∷ os) g.1 (owing even o) in
    record { uses = u ∷ r.uses; right = out.pass_tag types i s f ss _ _ _ (with_uses r.uses (completion i ss)) (heads_with behind_base r.uses (completion i ss) g.0) r.right }
ends_right (Declarator naming.Must ∷ ss) types f i ls os g o =
    let u = (top ls).uses + 0 in
    let r = ends_right ss types f i (under ls) (seen u u ∷ os) g.1 (owing even o) in
    record { uses = u ∷ r.uses; right = out.pass_brackets types i f ss _ _ _ (with_uses r.uses (completion i ss)) (heads_with leaves r.uses (completion i ss) g.0) r.right }
ends_right (Declarator naming.Typedef ∷ ss) types f i ls os g o =
    let u = (top ls).uses + 0 in
    let r = ends_right ss types [] i (under ls) (seen u u ∷ os) g.1 (owing even o) in
    record { uses = u ∷ r.uses; right = out.pass_brackets types i [] ss _ _ _ (with_uses r.uses (completion i ss)) (heads_with leaves r.uses (completion i ss) g.0) r.right }
ends_right (Pointer naming.Must ∷ ss) types f i ls os g o =
    let u = (top ls).uses + 0 in
    let r = ends_right ss types f i (under ls) (seen u u ∷ os) g.1 (owing even o) in
    record { uses = u ∷ r.uses; right = out.pass_brackets types i f ss _ _ _ (with_uses r.uses (completion i ss)) (heads_with leaves r.uses (completion i ss) g.0) r.right }
ends_right (Pointer naming.Typedef ∷ ss) types f i ls os g o =
    let u = (top ls).uses + 0 in
    let r = ends_right ss types [] i (under ls) (seen u u ∷ os) g.1 (owing even o) in
    record { uses = u ∷ r.uses; right = out.pass_brackets types i [] ss _ _ _ (with_uses r.uses (completion i ss)) (heads_with leaves r.uses (completion i ss) g.0) r.right }
ends_right (Nameless ∷ ss) types f i ls os g o =
    let u = (top ls).uses + 0 in
    let r = ends_right ss types f i (under ls) (seen u u ∷ os) g.1 (owing even o) in
    record { uses = u ∷ r.uses; right = out.pass_brackets types i f ss _ _ _ (with_uses r.uses (completion i ss)) (heads_with leaves r.uses (completion i ss) g.0) r.right }
ends_right (Open mode.Assign ∷ ss) types f i ls os g o =
    let u = (top ls).uses + 3 in
    let v = (top ls).uses + 1 + 0 in
    let r = ends_right ss types f i (under ls) (seen v v ∷ seen u u ∷ os) g.1 (owing even (owing even o)) in
    record { uses = u ∷ v ∷ r.uses; right = out.pass_suffixes types i f (Behind true ∷ ss) _ _ _ (with_uses r.uses (completion i ss)) (ending_follows (with_uses r.uses (completion i ss)) (heads_with closes r.uses (completion i ss) g.0)) (out.pass_behind types i true f ss _ _ _ (with_uses r.uses (completion i ss)) (closes_are_ends (with_uses r.uses (completion i ss)) (heads_with closes r.uses (completion i ss) g.0)) r.right) }
ends_right (Open mode.Cond ∷ ss) types f i ls os g o =
    let u = (top ls).uses + 3 in
    let v = (top ls).uses + 1 + 0 in
    let r = ends_right ss types f i (under ls) (seen v v ∷ seen u u ∷ os) g.1 (owing even (owing even o)) in
    record { uses = u ∷ v ∷ r.uses; right = out.pass_suffixes types i f (Behind false ∷ ss) _ _ _ (with_uses r.uses (completion i ss)) (ending_follows (with_uses r.uses (completion i ss)) (heads_with closes r.uses (completion i ss) g.0)) (out.pass_behind types i false f ss _ _ _ (with_uses r.uses (completion i ss)) (closes_are_ends (with_uses r.uses (completion i ss)) (heads_with closes r.uses (completion i ss) g.0)) r.right) }
ends_right (Open mode.Cast ∷ ss) types f i ls os g o =
    let u = (top ls).uses + 3 in
    let v = (top ls).uses + 1 + 0 in
    let r = ends_right ss types f i (under ls) (seen v v ∷ seen u u ∷ os) g.1 (owing even (owing even o)) in
    record { uses = u ∷ v ∷ r.uses; right = out.pass_suffixes types i f (ss) _ _ _ (with_uses r.uses (completion i ss)) (ending_follows (with_uses r.uses (completion i ss)) (heads_with closes r.uses (completion i ss) g.0)) (r.right) }
ends_right (Open mode.Unary ∷ ss) types f i ls os g o =
    let u = (top ls).uses + 3 in
    let v = (top ls).uses + 1 + 0 in
    let r = ends_right ss types f i (under ls) (seen v v ∷ seen u u ∷ os) g.1 (owing even (owing even o)) in
    record { uses = u ∷ v ∷ r.uses; right = out.pass_suffixes types i f (ss) _ _ _ (with_uses r.uses (completion i ss)) (ending_follows (with_uses r.uses (completion i ss)) (heads_with closes r.uses (completion i ss) g.0)) (r.right) }
ends_right (Open mode.Size ∷ ss) types f i ls os g o =
    let u = (top ls).uses + 0 in
    let v = (top ls).uses + 0 + 0 in
    let r = ends_right ss types f i (under ls) (seen v v ∷ seen u u ∷ os) g.1 (owing even (owing even o)) in
    record { uses = u ∷ v ∷ r.uses; right = r.right }
