-- The file of a good checkpoint has no flaw and holds that checkpoint.
use Rattle.std.proofs.Common.{◌≡◌, ℕ, zero, suc, ◌+◌, ◌-◌, ◌*◌, ◌^◌, ◌<◌, ◌≤◌, Bool, true, false, List, [], ◌∷◌, ◌++◌, map, length, take, drop, get_or, codes, Option, Some, None, All, nat_le, if◌then◌else◌, refl, ap, sym, ◌∙◌, subst, arith, append_assoc, length-drop, length-append}
use Rattle.std.specs.List.{flat_map, range_with_len}
use Rattle.std.specs.Str.{bytes_eq}
use Rattle.std.proofs.Math.Seq.{take-append_seam}
use Rattle.std.proofs.lemmas.List.{drop-drop, take-append-le}
use Rattle.std.proofs.lemmas.List.Elements.{All-head, All-tail}
use Rattle.std.proofs.lemmas.Bool.{le-leb}
use Rattle.std.proofs.lemmas.Slice.Eq.{bytes_eq-Decides}
use Rattle.byteorder.specs.Endian.{big_bytes, big_number}
use Rattle.byteorder.specs.Numbers.{big_number-reads_back}
use Rattle.sha2.specs.Sha256.{sha256}
use Rattle.sha2.proofs.Facts256.{length-sha256}
use Rattle.porch_flat.specs.declared.whole.Flat.{Flat}
use Rattle.porch_flat_line.specs.Text.{Text}
use Rattle.porch_ucf.specs.declared.fault.ImageFault.{ImageFault}
use Rattle.porch_ucf.specs.declared.header.Header.{Header}
use Rattle.porch_ucf.specs.declared.image.FrameRow.{FrameRow}
use Rattle.porch_ucf.specs.declared.image.BlockRow.{BlockRow}
use Rattle.porch_ucf.specs.Fields.{u32_in, u64_in}
use Rattle.porch_ucf.specs.Files.{frame_bytes, block_bytes, rows_bytes, unsealed, sealed, file_of}
use Rattle.porch_ucf.specs.FirstFlaw.{Fits, HasWords, IsFlawless, body_flaw}
use Rattle.porch_ucf.specs.FrontFlaws.{length_flaw, digest_flaw, program_flaw, rows_flaw, front_flaw}
use Rattle.porch_ucf.specs.HeaderFlaws.{first_of, unless, header_flaw, counts_flaw, magic_flaw, version_flaw, reserved_flaw}
use Rattle.porch_ucf.specs.Headers.{header_of, header_bytes}
use Rattle.porch_ucf.specs.Images.{Checkpoint, IsImage, rows_size}
use Rattle.porch_ucf.specs.Laws.{FilesAreReadBack, FitsFields, FrameFits, BlockFits, IsReadable, IsReadBack}
use Rattle.porch_ucf.specs.Reading.{frame_in, block_in, frames_in, blocks_in, bytes_in, row_place, image_of}

-- numbers are read back, whatever follows them
back_4 : (n : ℕ) (rest : List ℕ) → n < 2 ^ 32 → big_number 4 (big_bytes 4 n ++ rest) ≡ n
back_4 n rest lt = big_number-reads_back 4 n rest (omega (arith, lt))

back_8 : (n : ℕ) (rest : List ℕ) → n < 2 ^ 64 → big_number 8 (big_bytes 8 n ++ rest) ≡ n
back_8 n rest lt = big_number-reads_back 8 n rest (omega (arith, lt))

take_front : (n : ℕ) (xs ys : List ℕ) → length xs ≡ n → take n (xs ++ ys) ≡ xs
take_front n xs ys e = subst (λ m. take m (xs ++ ys) ≡ xs) e (take-append_seam xs ys)

drop_front : (n : ℕ) (xs ys : List ℕ) → length xs ≡ n → drop n (xs ++ ys) ≡ ys
drop_front n [] ys e = subst (λ m. drop m ys ≡ ys) e refl
drop_front zero (x ∷ xs) ys e = absurd (omega (arith, e))
drop_front (suc n) (x ∷ xs) ys e = drop_front n xs ys (omega (arith, e))

abbrev header_with : (a b c d e f : ℕ) → List ℕ → Header
header_with a b c d e f g = record { number = a; turns = b; output = c; frames = d; blocks = e; body = f; program = g }

abbrev with_parts : Header → List FrameRow → List BlockRow → List ℕ → Checkpoint
with_parts h fs bs xs = record { header = h; frames = fs; blocks = bs; bytes = xs }

alone : (flaw : Option ImageFault) → flaw ≡ None → first_of (flaw ∷ []) ≡ None
alone flaw e = rw e refl

-- a header is read back
module _ (h : Header) (rest : List ℕ) (number : h.number < 2 ^ 64) (turns : h.turns < 2 ^ 64) (output : h.output < 2 ^ 64) (frames : h.frames < 2 ^ 32) (blocks : h.blocks < 2 ^ 32) (body : h.body < 2 ^ 64) (program : length h.program ≡ 32) where
  header_back : header_of (header_bytes h ++ rest) ≡ h
  header_back =
      let text = header_bytes h ++ rest in
      let last = h.program ++ rest in
      let behind_body = big_bytes 8 0 ++ last in
      let behind_blocks = big_bytes 4 0 ++ (big_bytes 8 h.body ++ behind_body) in
      let behind_output = big_bytes 4 h.blocks ++ behind_blocks in
      let behind_turns = big_bytes 8 h.output ++ behind_output in
      let behind_number = big_bytes 8 h.turns ++ behind_turns in
      let behind_frames = big_bytes 8 h.number ++ behind_number in
      let a : u64_in text 16 ≡ h.number = back_8 h.number behind_number number in
      let b : u64_in text 24 ≡ h.turns = back_8 h.turns behind_turns turns in
      let c : u64_in text 32 ≡ h.output = back_8 h.output behind_output output in
      let d : u32_in text 12 ≡ h.frames = back_4 h.frames behind_frames frames in
      let e : u32_in text 40 ≡ h.blocks = back_4 h.blocks behind_blocks blocks in
      let f : u64_in text 48 ≡ h.body = back_8 h.body behind_body body in
      let g : take 32 (drop 64 text) ≡ h.program = take_front 32 h.program rest program in
      all_equal (u64_in text 16) (u64_in text 24) (u64_in text 32) (u32_in text 12) (u32_in text 40) (u64_in text 48) (take 32 (drop 64 text)) a b c d e f g
    where
      all_equal : (a b c d e f : ℕ) (g : List ℕ) → a ≡ h.number → b ≡ h.turns → c ≡ h.output → d ≡ h.frames → e ≡ h.blocks → f ≡ h.body → g ≡ h.program
          → header_with a b c d e f g ≡ h
      all_equal a b c d e f g p q r s t u v = rw (p, q, r, s, t, u, v) refl

  header_passes : counts_flaw h ≡ None → header_flaw (header_bytes h ++ rest) ≡ None
  header_passes counts = alone (counts_flaw (header_of (header_bytes h ++ rest))) (ap counts_flaw header_back ∙ counts)

-- rows of eight bytes are read back
module _ {X : Type 0} (text : List ℕ) (read : ℕ → X) (spell : X → List ℕ) (Fine : X → Type 0)
    (each : (i : ℕ) (x : X) (rest : List ℕ) → Fine x → drop (row_place i) text ≡ spell x ++ rest → read i ≡ x)
    (eight : (x : X) → length (spell x) ≡ 8) where
  rows_back : (xs : List X) (a : ℕ) (rest : List ℕ) → All Fine xs → drop (row_place a) text ≡ flat_map spell xs ++ rest
      → map read (range_with_len a (length xs)) ≡ xs
  rows_back [] a rest fine at = refl
  rows_back (x ∷ xs) a rest fine at =
      let more = flat_map spell xs ++ rest in
      let here : drop (row_place a) text ≡ spell x ++ more = at ∙ append_assoc (spell x) (flat_map spell xs) rest in
      let next : row_place (a + 1) ≡ row_place a + 8 = omega arith in
      let later : drop (row_place (a + 1)) text ≡ more =
      ap (λ n. drop n text) next ∙ sym (drop-drop 8 (row_place a) text) ∙ ap (drop 8) here ∙ drop_front 8 (spell x) more (eight x) in
      ap (λ y. y ∷ map read (range_with_len (a + 1) (length xs))) (each a x more (All-head Fine x xs fine) here)
      ∙ ap (λ l. x ∷ l) (rows_back xs (a + 1) rest (All-tail Fine x xs fine) later)

frame_back : (text : List ℕ) (i : ℕ) (x : FrameRow) (rest : List ℕ) → FrameFits x → drop (row_place i) text ≡ frame_bytes x ++ rest → frame_in text i ≡ x
frame_back text i x rest fits at =
    let first : u32_in text (row_place i) ≡ x.function = ap (big_number 4) at ∙ back_4 x.function (big_bytes 4 x.call ++ rest) fits.0 in
    let there : drop (row_place i + 4) text ≡ big_bytes 4 x.call ++ rest = sym (drop-drop 4 (row_place i) text) ∙ ap (drop 4) at in
    let second : u32_in text (row_place i + 4) ≡ x.call = ap (big_number 4) there ∙ back_4 x.call rest fits.1 in
    rw (first, second) refl

block_back : (text : List ℕ) (i : ℕ) (x : BlockRow) (rest : List ℕ) → BlockFits x → drop (row_place i) text ≡ block_bytes x ++ rest → block_in text i ≡ x
block_back text i x rest fits at =
    let first : u32_in text (row_place i) ≡ x.ty = ap (big_number 4) at ∙ back_4 x.ty (big_bytes 4 x.count ++ rest) fits.0 in
    let there : drop (row_place i + 4) text ≡ big_bytes 4 x.count ++ rest = sym (drop-drop 4 (row_place i) text) ∙ ap (drop 4) at in
    let second : u32_in text (row_place i + 4) ≡ x.count = ap (big_number 4) there ∙ back_4 x.count rest fits.1 in
    rw (first, second) refl

all_eight : {X : Type 0} (spell : X → List ℕ) → ((x : X) → length (spell x) ≡ 8) → (xs : List X) → length (flat_map spell xs) ≡ 8 * length xs
all_eight spell eight [] = refl
all_eight spell eight (x ∷ xs) = omega (arith, length-append (spell x) (flat_map spell xs), eight x, all_eight spell eight xs)

length_header : (h : Header) → length h.program ≡ 32 → length (header_bytes h) ≡ 96
length_header h e = omega (arith, e)

length_rows : (c : Checkpoint) → length (rows_bytes c.frames c.blocks) ≡ rows_size (length c.frames) (length c.blocks)
length_rows c =
    omega (arith, length-append (flat_map frame_bytes c.frames) (flat_map block_bytes c.blocks), all_eight frame_bytes (λ x. refl) c.frames, all_eight block_bytes (λ x. refl) c.blocks)

regrouped : (a b c d e f : List ℕ) → (((a ++ (b ++ c)) ++ d) ++ e) ++ f ≡ a ++ (b ++ (c ++ (d ++ (e ++ f))))
regrouped a b c d e f =
    append_assoc ((a ++ (b ++ c)) ++ d) e f ∙ append_assoc (a ++ (b ++ c)) d (e ++ f) ∙ append_assoc a (b ++ c) (d ++ (e ++ f)) ∙ ap (λ l. a ++ l) (append_assoc b c (d ++ (e ++ f)))

passes : (test : Bool) (fault : ImageFault) → test ≡ true → unless test fault ≡ None
passes test fault e = rw e refl

five : (a b c d e : Option ImageFault) → a ≡ None → b ≡ None → c ≡ None → d ≡ None → e ≡ None → first_of (a ∷ b ∷ c ∷ d ∷ e ∷ []) ≡ None
five a b c d e p q r s t = rw (p, q, r, s, t) refl

module _ (c : Checkpoint) (image : IsImage c) (fits : FitsFields c) (rest : List ℕ) where
  abbrev text : List ℕ
  text = file_of c ++ rest

  abbrev tail : List ℕ
  tail = sha256 (drop 1 (unsealed c)) ++ rest

  text_is : text ≡ header_bytes c.header ++ (flat_map frame_bytes c.frames ++ (flat_map block_bytes c.blocks ++ (c.bytes ++ tail)))
  text_is = regrouped (header_bytes c.header) (flat_map frame_bytes c.frames) (flat_map block_bytes c.blocks) c.bytes (sha256 (drop 1 (unsealed c))) rest

  header_is : header_of text ≡ c.header
  header_is =
      ap header_of text_is
      ∙ header_back c.header (flat_map frame_bytes c.frames ++ (flat_map block_bytes c.blocks ++ (c.bytes ++ tail))) fits.number fits.turns fits.output fits.frames fits.blocks fits.body fits.program

  behind_header : drop 96 text ≡ flat_map frame_bytes c.frames ++ (flat_map block_bytes c.blocks ++ (c.bytes ++ tail))
  behind_header = ap (drop 96) text_is ∙ drop_front 96 (header_bytes c.header) _ (length_header c.header fits.program)

  behind_frames : drop (row_place (length c.frames)) text ≡ flat_map block_bytes c.blocks ++ (c.bytes ++ tail)
  behind_frames =
      let n = 8 * length c.frames in
      sym (drop-drop n 96 text) ∙ ap (drop n) behind_header ∙ drop_front n (flat_map frame_bytes c.frames) _ (all_eight frame_bytes (λ x. refl) c.frames)

  behind_rows : drop (96 + rows_size (length c.frames) (length c.blocks)) text ≡ c.bytes ++ tail
  behind_rows =
      let n = 8 * length c.blocks in
      let at = row_place (length c.frames) in
      let all : 96 + rows_size (length c.frames) (length c.blocks) ≡ at + n = omega arith in
      ap (λ k. drop k text) all ∙ sym (drop-drop n at text) ∙ ap (drop n) behind_frames ∙ drop_front n (flat_map block_bytes c.blocks) _ (all_eight block_bytes (λ x. refl) c.blocks)

  frames_are : frames_in text c.header.frames ≡ c.frames
  frames_are =
      ap (frames_in text) image.frames
      ∙ rows_back text (frame_in text) frame_bytes FrameFits (frame_back text) (λ x. refl) c.frames 0 (flat_map block_bytes c.blocks ++ (c.bytes ++ tail)) fits.frame_rows behind_header

  blocks_are : blocks_in text c.header.frames c.header.blocks ≡ c.blocks
  blocks_are =
      ap (λ n. blocks_in text n c.header.blocks) image.frames ∙ ap (blocks_in text (length c.frames)) image.blocks
      ∙ rows_back text (block_in text) block_bytes BlockFits (block_back text) (λ x. refl) c.blocks (length c.frames) (c.bytes ++ tail) fits.block_rows behind_frames

  bytes_are : bytes_in text (rows_size c.header.frames c.header.blocks) c.header.body ≡ c.bytes
  bytes_are =
      let rows = rows_size (length c.frames) (length c.blocks) in
      let size : rows_size c.header.frames c.header.blocks ≡ rows = ap (λ n. rows_size n c.header.blocks) image.frames ∙ ap (rows_size (length c.frames)) image.blocks in
      let many : length c.bytes ≡ c.header.body - rows = omega (arith, image.body) in
      ap (λ n. bytes_in text n c.header.body) size ∙ ap (take (c.header.body - rows)) behind_rows ∙ take_front (c.header.body - rows) c.bytes tail many

  abbrev held : Header → Checkpoint
  held h = record { header = h; frames = frames_in text h.frames; blocks = blocks_in text h.frames h.blocks; bytes = bytes_in text (rows_size h.frames h.blocks) h.body }

  same_parts : (fs : List FrameRow) (bs : List BlockRow) (xs : List ℕ) → fs ≡ c.frames → bs ≡ c.blocks → xs ≡ c.bytes → with_parts c.header fs bs xs ≡ c
  same_parts fs bs xs e f g = rw (e, f, g) refl

  pub same_image : image_of text ≡ c
  same_image = ap held header_is ∙ same_parts (frames_in text c.header.frames) (blocks_in text c.header.frames c.header.blocks) (bytes_in text (rows_size c.header.frames c.header.blocks) c.header.body) frames_are blocks_are bytes_are

  length_unsealed : length (unsealed c) ≡ 96 + c.header.body
  length_unsealed =
      omega (arith, length-append (header_bytes c.header ++ rows_bytes c.frames c.blocks) c.bytes, length-append (header_bytes c.header) (rows_bytes c.frames c.blocks), length_header c.header fits.program, length_rows c, image.body)

  split : text ≡ unsealed c ++ tail
  split = append_assoc (unsealed c) (sha256 (drop 1 (unsealed c))) rest

  module _ (digest : List ℕ) (of_program : c.header.program ≡ digest) (counts : counts_flaw c.header ≡ None) where
    length_passes : length_flaw c.header text ≡ None
    length_passes =
        let whole : length text ≡ length (unsealed c) + length tail = ap (λ (l : List ℕ). length l) split ∙ length-append (unsealed c) tail in
        let sealed_by : length tail ≡ 32 + length rest = length-append (sha256 (drop 1 (unsealed c))) rest ∙ ap (λ n. n + length rest) (length-sha256 (drop 1 (unsealed c))) in
        passes _ _ (le-leb (96 + c.header.body + 32) (length text) (omega (arith, whole, sealed_by, length_unsealed)))

    digest_passes : digest_flaw c.header text ≡ None
    digest_passes =
        let end = 96 + c.header.body in
        let before : take end text ≡ unsealed c = ap (take end) split ∙ take_front end (unsealed c) tail length_unsealed in
        let behind : drop end text ≡ tail = ap (drop end) split ∙ drop_front end (unsealed c) tail length_unsealed in
        let seal : take 32 (drop end text) ≡ sha256 (drop 1 (unsealed c)) = ap (take 32) behind ∙ take_front 32 (sha256 (drop 1 (unsealed c))) rest (length-sha256 (drop 1 (unsealed c))) in
        let made : sha256 (drop 1 (take end text)) ≡ sha256 (drop 1 (unsealed c)) = ap (λ l. sha256 (drop 1 l)) before in
        passes _ _ ((bytes_eq-Decides (take 32 (drop end text)) (sha256 (drop 1 (take end text)))).1 (seal ∙ sym made))

    program_passes : program_flaw digest c.header ≡ None
    program_passes = passes _ _ ((bytes_eq-Decides c.header.program digest).1 of_program)

    rows_pass : rows_flaw c.header ≡ None
    rows_pass =
        let size : rows_size c.header.frames c.header.blocks ≡ rows_size (length c.frames) (length c.blocks) = ap (λ n. rows_size n c.header.blocks) image.frames ∙ ap (rows_size (length c.frames)) image.blocks in
        passes _ _ (le-leb (rows_size c.header.frames c.header.blocks) c.header.body (omega (arith, size, image.body)))

    pub front_passes : front_flaw digest text ≡ None
    front_passes =
        five (header_flaw text) (length_flaw (header_of text) text) (digest_flaw (header_of text) text) (program_flaw digest (header_of text)) (rows_flaw (header_of text))
        (ap header_flaw text_is ∙ header_passes c.header (flat_map frame_bytes c.frames ++ (flat_map block_bytes c.blocks ++ (c.bytes ++ tail))) fits.number fits.turns fits.output fits.frames fits.blocks fits.body fits.program counts)
        (ap (λ h. length_flaw h text) header_is ∙ length_passes)
        (ap (λ h. digest_flaw h text) header_is ∙ digest_passes)
        (ap (program_flaw digest) header_is ∙ program_passes)
        (ap rows_flaw header_is ∙ rows_pass)

pub files_read_back : FilesAreReadBack
files_read_back = λ long program c rest h.
    let same = same_image c h.is_image h.fits_fields rest in
    record {
      same = same;
      flawless = record {
        front = front_passes c h.is_image h.fits_fields rest (sha256 (Text program)) h.is_good.of_program h.is_good.counts;
        body = ap (body_flaw program) same ∙ h.is_good.body;
        words = subst (HasWords program) (sym same) h.is_good.words;
        values = subst (Fits long program) (sym same) h.fits;
      };
    }
