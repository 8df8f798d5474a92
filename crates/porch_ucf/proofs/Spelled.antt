-- A file without a flaw in its front begins with the file of what it holds.
use Rattle.std.proofs.Common.{Bool, true, false, Option, Some, None, ◌==◌, ◌≡◌, ℕ, zero, suc, ◌+◌, ◌-◌, ◌*◌, ◌<◌, ◌≤◌, List, [], ◌∷◌, ◌++◌, map, length, take, drop, get_or, codes, refl, ap, sym, ◌∙◌, subst, arith, length-take, length-drop}
use Rattle.std.specs.Int.{w32, w64, from_be_bytes}
use Rattle.std.specs.List.{flat_map, range_with_len}
use Rattle.std.proofs.lemmas.Grind.{common_steps}
use Rattle.std.proofs.Math.Seq.{take-add}
use Rattle.std.proofs.lemmas.List.{drop-drop}
use Rattle.std.proofs.lemmas.Bool.{eqb-true, leb-true}
use Rattle.std.proofs.lemmas.Option.{none-some}
use Rattle.std.proofs.lemmas.Slice.Eq.{bytes_eq-Decides}
use Rattle.std.proofs.lemmas.Nat.{be_bytes_4, be_bytes_8}
use Rattle.byteorder.specs.Endian.{big_bytes, big_number}
use Rattle.sha2.specs.Sha256.{sha256}
use Rattle.porch_flat_line.specs.Text.{Text}
use Rattle.porch_ucf.specs.declared.fault.ImageFault.{ImageFault}
use Rattle.porch_ucf.specs.Fields.{u32_in, u64_in}
use Rattle.porch_ucf.specs.Files.{frame_bytes, block_bytes, rows_bytes, unsealed, sealed}
use Rattle.porch_ucf.specs.FrontFlaws.{length_flaw, digest_flaw, program_flaw, rows_flaw}
use Rattle.porch_ucf.specs.HeaderFlaws.{first_of, unless, header_flaw, magic_flaw, version_flaw, reserved_flaw, counts_flaw}
use Rattle.porch_ucf.specs.Headers.{header_of, header_bytes, gate_and_name}
use Rattle.porch_ucf.specs.Images.{rows_size}
use Rattle.porch_ucf.specs.Laws.{AreBytes, FilesAreSpelled, FlawlessFilesAreGood}
use Rattle.porch_ucf.specs.Reading.{frame_in, block_in, frames_in, blocks_in, bytes_in, row_place, image_of}

-- the bytes from a place on
abbrev part : List ℕ → (at many : ℕ) → List ℕ
part text at many = take many (drop at text)

four : (xs : List ℕ) → 4 ≤ length xs → big_number 4 xs ≡ from_be_bytes w32 (take 4 xs)
four (a ∷ b ∷ c ∷ d ∷ rest) l = omega arith
four (a ∷ b ∷ c ∷ []) l = absurd (omega (arith, l))
four (a ∷ b ∷ []) l = absurd (omega (arith, l))
four (a ∷ []) l = absurd (omega (arith, l))
four [] l = absurd (omega (arith, l))

eight : (xs : List ℕ) → 8 ≤ length xs → big_number 8 xs ≡ from_be_bytes w64 (take 8 xs)
eight (a ∷ b ∷ c ∷ d ∷ e ∷ f ∷ g ∷ h ∷ rest) l = omega arith
eight (a ∷ b ∷ c ∷ d ∷ e ∷ f ∷ g ∷ []) l = absurd (omega (arith, l))
eight (a ∷ b ∷ c ∷ d ∷ e ∷ f ∷ []) l = absurd (omega (arith, l))
eight (a ∷ b ∷ c ∷ d ∷ e ∷ []) l = absurd (omega (arith, l))
eight (a ∷ b ∷ c ∷ d ∷ []) l = absurd (omega (arith, l))
eight (a ∷ b ∷ c ∷ []) l = absurd (omega (arith, l))
eight (a ∷ b ∷ []) l = absurd (omega (arith, l))
eight (a ∷ []) l = absurd (omega (arith, l))
eight [] l = absurd (omega (arith, l))

below : (xs : List ℕ) (at k : ℕ) → AreBytes xs → (i : ℕ) → get_or (take k (drop at xs)) i 0 < 256
below xs at k fits i = grind (arith, common_steps, fits (at + i))

-- a number that is read spells the bytes that it was read from
pub spells_4 : (text : List ℕ) (at : ℕ) → AreBytes text → at + 4 ≤ length text → big_bytes 4 (u32_in text at) ≡ part text at 4
spells_4 text at fits l =
    let there : 4 ≤ length (drop at text) = omega (arith, l, length-drop at text) in
    be_bytes_4 (part text at 4) (u32_in text at) (simp length-take (omega (arith, there))) (below text at 4 fits) (four (drop at text) there)

pub spells_8 : (text : List ℕ) (at : ℕ) → AreBytes text → at + 8 ≤ length text → big_bytes 8 (u64_in text at) ≡ part text at 8
spells_8 text at fits l =
    let there : 8 ≤ length (drop at text) = omega (arith, l, length-drop at text) in
    be_bytes_8 (part text at 8) (u64_in text at) (simp length-take (omega (arith, there))) (below text at 8 fits) (eight (drop at text) there)

-- two parts that follow one another
pub join : (text : List ℕ) (at n m : ℕ) → part text at n ++ part text (at + n) m ≡ part text at (n + m)
join text at n m = ap (λ l. part text at n ++ take m l) (sym (drop-drop n at text)) ∙ sym (take-add n m (drop at text))

-- rows that are read spell the bytes that they were read from
module _ {X : Type 0} (text : List ℕ) (read : ℕ → X) (spell : X → List ℕ) (most : ℕ) (each : (i : ℕ) → i < most → spell (read i) ≡ part text (row_place i) 8) where
  rows_spell : (a n : ℕ) → a + n ≤ most → flat_map spell (map read (range_with_len a n)) ≡ part text (row_place a) (8 * n)
  rows_spell a zero le = refl
  rows_spell a (suc n) le =
      let next : row_place (a + 1) ≡ row_place a + 8 = omega arith in
      let more : 8 + 8 * n ≡ 8 * suc n = omega arith in
      ap (λ l. l ++ flat_map spell (map read (range_with_len (a + 1) n))) (each a (omega (arith, le)))
      ∙ ap (λ l. part text (row_place a) 8 ++ l) (rows_spell (a + 1) n (omega (arith, le)) ∙ ap (λ p. part text p (8 * n)) next)
      ∙ join text (row_place a) 8 (8 * n)
      ∙ ap (part text (row_place a)) more

-- what is spelled by parts that follow one another
module _ (text : List ℕ) (at n : ℕ) (head tail : List ℕ) (m : ℕ) where
  pub follow : head ≡ part text at n → tail ≡ part text (at + n) m → head ++ tail ≡ part text at (n + m)
  follow e f = ap (λ l. l ++ tail) e ∙ ap (λ l. part text at n ++ l) f ∙ join text at n m

module _ (text : List ℕ) (fits : AreBytes text) (whole : 96 ≤ length text) where
  -- the header is spelled from the back
  pub header_spelled : gate_and_name ≡ take 8 text → u32_in text 8 ≡ 1 → u32_in text 44 ≡ 0 → u64_in text 56 ≡ 0 → header_bytes (header_of text) ≡ take 96 text
  header_spelled name version none nones =
      let program : (header_of text).program ≡ part text 64 32 = refl in
      let v : big_bytes 4 1 ≡ part text 8 4 = subst (λ n. big_bytes 4 n ≡ part text 8 4) version (spells_4 text 8 fits (omega (arith, whole))) in
      let z : big_bytes 4 0 ≡ part text 44 4 = subst (λ n. big_bytes 4 n ≡ part text 44 4) none (spells_4 text 44 fits (omega (arith, whole))) in
      let zs : big_bytes 8 0 ≡ part text 56 8 = subst (λ n. big_bytes 8 n ≡ part text 56 8) nones (spells_8 text 56 fits (omega (arith, whole))) in
      let i = follow text 56 8 _ _ 32 zs program in
      let h = follow text 48 8 _ _ 40 (spells_8 text 48 fits (omega (arith, whole))) i in
      let g = follow text 44 4 _ _ 48 z h in
      let f = follow text 40 4 _ _ 52 (spells_4 text 40 fits (omega (arith, whole))) g in
      let e = follow text 32 8 _ _ 56 (spells_8 text 32 fits (omega (arith, whole))) f in
      let d = follow text 24 8 _ _ 64 (spells_8 text 24 fits (omega (arith, whole))) e in
      let c = follow text 16 8 _ _ 72 (spells_8 text 16 fits (omega (arith, whole))) d in
      let b = follow text 12 4 _ _ 80 (spells_4 text 12 fits (omega (arith, whole))) c in
      let a = follow text 8 4 _ _ 84 v b in
      follow text 0 8 _ _ 88 name a

  -- the rows and the data behind it
  module _ (frames blocks body : ℕ) (fit : rows_size frames blocks ≤ body) (long : 96 + body ≤ length text) where
    frames_spelled : flat_map frame_bytes (frames_in text frames) ≡ part text 96 (8 * frames)
    frames_spelled = rows_spell text (frame_in text) frame_bytes (frames + blocks) frame_spelled 0 frames (omega arith)
      where
        frame_spelled : (i : ℕ) → i < frames + blocks → frame_bytes (frame_in text i) ≡ part text (row_place i) 8
        frame_spelled i lt = follow text (row_place i) 4 _ _ 4 (spells_4 text (row_place i) fits (omega (arith, lt, fit, long))) (spells_4 text (row_place i + 4) fits (omega (arith, lt, fit, long)))

    blocks_spelled : flat_map block_bytes (blocks_in text frames blocks) ≡ part text (96 + 8 * frames) (8 * blocks)
    blocks_spelled = rows_spell text (block_in text) block_bytes (frames + blocks) block_spelled frames blocks (omega arith)
      where
        block_spelled : (i : ℕ) → i < frames + blocks → block_bytes (block_in text i) ≡ part text (row_place i) 8
        block_spelled i lt = follow text (row_place i) 4 _ _ 4 (spells_4 text (row_place i) fits (omega (arith, lt, fit, long))) (spells_4 text (row_place i + 4) fits (omega (arith, lt, fit, long)))

    rows_spelled : rows_bytes (frames_in text frames) (blocks_in text frames blocks) ≡ part text 96 (rows_size frames blocks)
    rows_spelled =
        let all : 8 * frames + 8 * blocks ≡ rows_size frames blocks = omega arith in
        follow text 96 (8 * frames) _ _ (8 * blocks) frames_spelled blocks_spelled ∙ ap (part text 96) all

    pub body_spelled : (front : List ℕ) → front ≡ take 96 text → front ++ rows_bytes (frames_in text frames) (blocks_in text frames blocks) ++ bytes_in text (rows_size frames blocks) body ≡ take (96 + body) text
    body_spelled front header =
        let size = rows_size frames blocks in
        let all : 96 + size + (body - size) ≡ 96 + body = omega (arith, fit) in
        let start : 96 + size ≡ 0 + (96 + size) = omega arith in
        let before = follow text 0 96 front (rows_bytes (frames_in text frames) (blocks_in text frames blocks)) size header rows_spelled in
        follow text 0 (96 + size) (front ++ rows_bytes (frames_in text frames) (blocks_in text frames blocks)) (bytes_in text size body) (body - size) before (ap (λ p. part text p (body - size)) start)
        ∙ ap (part text 0) all

-- what is known of a file whose front has no flaw
none_first : (a : Option ImageFault) (rest : List (Option ImageFault)) → first_of (a ∷ rest) ≡ None → (a ≡ None) × (first_of rest ≡ None)
none_first None rest e = (refl, e)
none_first (Some fault) rest e = absurd (none-some fault (sym e))

passed : (test : Bool) (fault : ImageFault) → unless test fault ≡ None → test ≡ true
passed true fault e = refl
passed false fault e = absurd (none-some fault (sym e))

pub files_spelled : FilesAreSpelled
files_spelled = λ digest text fits long letter sound.
    let h = header_of text in
    let in_header = none_first (header_flaw text) _ sound in
    let in_length = none_first (length_flaw h text) _ in_header.1 in
    let in_digest = none_first (digest_flaw h text) _ in_length.1 in
    let in_program = none_first (program_flaw digest h) _ in_digest.1 in
    let in_rows = none_first (rows_flaw h) _ in_program.1 in
    let magic = none_first (magic_flaw text) _ in_header.0 in
    let version = none_first (version_flaw text) _ magic.1 in
    let reserved = none_first (reserved_flaw text) _ version.1 in
    let zero = none_first (unless (u32_in text 44 == 0) _) _ reserved.0 in
    let zeros = none_first (unless (u64_in text 56 == 0) _) _ zero.1 in
    let whole : 96 + h.body + 32 ≤ length text = leb-true (96 + h.body + 32) (length text) (passed _ _ in_length.0) in
    let fit : rows_size h.frames h.blocks ≤ h.body = leb-true (rows_size h.frames h.blocks) h.body (passed _ _ in_rows.0) in
    let name : gate_and_name ≡ take 8 text =
    sym (take-add 1 7 text ∙ ap (λ l. l ++ take 7 (drop 1 text)) letter ∙ ap (λ l. take 1 gate_and_name ++ l) ((bytes_eq-Decides (take 7 (drop 1 text)) (codes "ORCHUCF")).0 (passed _ _ magic.0))) in
    let header = header_spelled text fits (omega (arith, long)) name (eqb-true (u32_in text 8) 1 (passed _ _ version.0)) (eqb-true (u32_in text 44) 0 (passed _ _ zero.0)) (eqb-true (u64_in text 56) 0 (passed _ _ zeros.0)) in
    let before : unsealed (image_of text) ≡ take (96 + h.body) text = body_spelled text fits (omega (arith, long)) h.frames h.blocks h.body fit (omega (arith, whole)) (header_bytes h) header in
    let digests : sha256 (drop 1 (take (96 + h.body) text)) ≡ part text (96 + h.body) 32 = sym ((bytes_eq-Decides (part text (96 + h.body) 32) (sha256 (drop 1 (take (96 + h.body) text)))).0 (passed _ _ in_digest.0)) in
    let size : 96 + h.body + 32 ≡ 128 + h.body = omega arith in
    let start : 96 + h.body ≡ 0 + (96 + h.body) = omega arith in
    ap sealed before ∙ follow text 0 (96 + h.body) (take (96 + h.body) text) (sha256 (drop 1 (take (96 + h.body) text))) 32 refl (digests ∙ ap (λ p. part text p 32) start) ∙ ap (λ n. take n text) size

pub flawless_good : FlawlessFilesAreGood
flawless_good = λ long program text flawless.
    let digest = sha256 (Text program) in
    let h = header_of text in
    let in_header = none_first (header_flaw text) _ flawless.front in
    let in_length = none_first (length_flaw h text) _ in_header.1 in
    let in_digest = none_first (digest_flaw h text) _ in_length.1 in
    let in_program = none_first (program_flaw digest h) _ in_digest.1 in
    let magic = none_first (magic_flaw text) _ in_header.0 in
    let version = none_first (version_flaw text) _ magic.1 in
    let reserved = none_first (reserved_flaw text) _ version.1 in
    let counts = none_first (counts_flaw h) _ reserved.1 in
    record {
      of_program = (bytes_eq-Decides h.program digest).0 (passed _ _ in_program.0);
      counts = counts.0;
      body = flawless.body;
      words = flawless.words;
    }
