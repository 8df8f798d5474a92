-- The header of a checkpoint file, read by place and written in order.
use Rattle.std.specs.Prelude.{ℕ, List, ◌++◌, take, drop, codes}
use Rattle.byteorder.specs.Endian.{big_bytes}
use Rattle.porch_ucf.specs.declared.header.Header.{Header}
use Rattle.porch_ucf.specs.declared.header.TheConstants.{FRAMES_AT, NUMBER_AT, TURNS_AT, OUTPUT_AT, BLOCKS_AT, BODY_AT, PROGRAM_AT, VERSION}
use Rattle.porch_ucf.specs.Fields.{u32_in, u64_in}

-- the header of a text
abbrev pub header_of : List ℕ → Header
header_of text =
    record {
      number = u64_in text NUMBER_AT;
      turns = u64_in text TURNS_AT;
      output = u64_in text OUTPUT_AT;
      frames = u32_in text FRAMES_AT;
      blocks = u32_in text BLOCKS_AT;
      body = u64_in text BODY_AT;
      program = take 32 (drop PROGRAM_AT text);
    }

-- the letter of an open gate, and the name of the format
abbrev pub gate_and_name : List ℕ
gate_and_name = codes "PORCHUCF"

-- the bytes of a header
abbrev pub header_bytes : Header → List ℕ
header_bytes h =
    gate_and_name
    ++ (big_bytes 4 VERSION
    ++ (big_bytes 4 h.frames
    ++ (big_bytes 8 h.number
    ++ (big_bytes 8 h.turns
    ++ (big_bytes 8 h.output
    ++ (big_bytes 4 h.blocks
    ++ (big_bytes 4 0
    ++ (big_bytes 8 h.body
    ++ (big_bytes 8 0
    ++ h.program)))))))))
