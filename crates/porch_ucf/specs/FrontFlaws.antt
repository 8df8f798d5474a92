-- What is wrong with a checkpoint file before its rows are read, in the order in which it is looked for.
use Rattle.std.specs.Prelude.{ℕ, ◌+◌, nat_le, List, [], ◌∷◌, length, take, drop, Option}
use Rattle.std.specs.Str.{bytes_eq}
use Rattle.sha2.specs.Sha256.{sha256}
use Rattle.porch_ucf.specs.declared.fault.Reason.TheVariants.{Length, Digest, Rows}
use Rattle.porch_ucf.specs.declared.fault.ImageFault.{ImageFault}
use Rattle.porch_ucf.specs.declared.fault.ImageFault.TheVariants.{Damaged, OtherProgram}
use Rattle.porch_ucf.specs.declared.header.Header.{Header}
use Rattle.porch_ucf.specs.declared.header.TheConstants.{BODY_AT, HEADER_BYTES, DIGEST_BYTES}
use Rattle.porch_ucf.specs.Headers.{header_of}
use Rattle.porch_ucf.specs.HeaderFlaws.{unless, first_of, header_flaw}
use Rattle.porch_ucf.specs.Images.{rows_size}

-- where the body ends and the digest stands
abbrev pub body_end : Header → ℕ
body_end h = HEADER_BYTES + h.body

-- the file holds the header, the body and the digest
abbrev pub length_flaw : Header → List ℕ → Option ImageFault
length_flaw h text =
    unless (nat_le (body_end h + DIGEST_BYTES) (length text)) (Damaged BODY_AT Length)

-- the digest is that of all bytes before it but the gate
abbrev pub digest_flaw : Header → List ℕ → Option ImageFault
digest_flaw h text =
    unless
    (bytes_eq (take DIGEST_BYTES (drop (body_end h) text)) (sha256 (drop 1 (take (body_end h) text))))
    (Damaged (body_end h) Digest)

-- the checkpoint is of the program whose text has this digest
abbrev pub program_flaw : (digest : List ℕ) → Header → Option ImageFault
program_flaw digest h = unless (bytes_eq h.program digest) (OtherProgram h.program digest)

-- the body holds the rows
abbrev pub rows_flaw : Header → Option ImageFault
rows_flaw h = unless (nat_le (rows_size h.frames h.blocks) h.body) (Damaged BODY_AT Rows)

-- the first flaw of a file as far as it shows before the rows are read
abbrev pub front_flaw : (digest : List ℕ) → List ℕ → Option ImageFault
front_flaw digest text =
    let h = header_of text in
    first_of
    (header_flaw text ∷ length_flaw h text ∷ digest_flaw h text ∷ program_flaw digest h ∷ rows_flaw h ∷ [])
