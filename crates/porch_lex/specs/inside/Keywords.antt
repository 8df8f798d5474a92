-- A keyword by its first letter, as the lexer looks for it.
use Rattle.std.specs.Prelude.{ℕ, ◌==◌, if◌then◌else◌, List, codes, Option, Some, None}
use Rattle.std.specs.Str.{bytes_eq}
use Rattle.porch_tree.specs.declared.word.Keyword.{Keyword}
use Rattle.porch_tree.specs.declared.word.Keyword.TheVariants as key

-- after the letter a
abbrev pub keyword_a : List ℕ → Option Keyword
keyword_a cs =
    if bytes_eq cs (codes "uto") then Some key.Auto
    else None

-- after the letter b
abbrev pub keyword_b : List ℕ → Option Keyword
keyword_b cs =
    if bytes_eq cs (codes "reak") then Some key.Break
    else None

-- after the letter c
abbrev pub keyword_c : List ℕ → Option Keyword
keyword_c cs =
    if bytes_eq cs (codes "ase") then Some key.Case
    else if bytes_eq cs (codes "har") then Some key.Char
    else if bytes_eq cs (codes "onst") then Some key.Const
    else if bytes_eq cs (codes "ontinue") then Some key.Continue
    else None

-- after the letter d
abbrev pub keyword_d : List ℕ → Option Keyword
keyword_d cs =
    if bytes_eq cs (codes "efault") then Some key.Default
    else if bytes_eq cs (codes "o") then Some key.Do
    else if bytes_eq cs (codes "ouble") then Some key.Double
    else None

-- after the letter e
abbrev pub keyword_e : List ℕ → Option Keyword
keyword_e cs =
    if bytes_eq cs (codes "lse") then Some key.Else
    else if bytes_eq cs (codes "num") then Some key.Enum
    else if bytes_eq cs (codes "xtern") then Some key.Extern
    else None

-- after the letter f
abbrev pub keyword_f : List ℕ → Option Keyword
keyword_f cs =
    if bytes_eq cs (codes "loat") then Some key.Float
    else if bytes_eq cs (codes "or") then Some key.For
    else None

-- after the letter g
abbrev pub keyword_g : List ℕ → Option Keyword
keyword_g cs =
    if bytes_eq cs (codes "oto") then Some key.Goto
    else None

-- after the letter i
abbrev pub keyword_i : List ℕ → Option Keyword
keyword_i cs =
    if bytes_eq cs (codes "f") then Some key.If
    else if bytes_eq cs (codes "nt") then Some key.Int
    else None

-- after the letter l
abbrev pub keyword_l : List ℕ → Option Keyword
keyword_l cs =
    if bytes_eq cs (codes "ong") then Some key.Long
    else None

-- after the letter r
abbrev pub keyword_r : List ℕ → Option Keyword
keyword_r cs =
    if bytes_eq cs (codes "egister") then Some key.Register
    else if bytes_eq cs (codes "eturn") then Some key.Return
    else None

-- after the letter s
abbrev pub keyword_s : List ℕ → Option Keyword
keyword_s cs =
    if bytes_eq cs (codes "hort") then Some key.Short
    else if bytes_eq cs (codes "igned") then Some key.Signed
    else if bytes_eq cs (codes "izeof") then Some key.Sizeof
    else if bytes_eq cs (codes "tatic") then Some key.Static
    else if bytes_eq cs (codes "truct") then Some key.Struct
    else if bytes_eq cs (codes "witch") then Some key.Switch
    else None

-- after the letter t
abbrev pub keyword_t : List ℕ → Option Keyword
keyword_t cs =
    if bytes_eq cs (codes "ypedef") then Some key.Typedef
    else None

-- after the letter u
abbrev pub keyword_u : List ℕ → Option Keyword
keyword_u cs =
    if bytes_eq cs (codes "nion") then Some key.Union
    else if bytes_eq cs (codes "nsigned") then Some key.Unsigned
    else None

-- after the letter v
abbrev pub keyword_v : List ℕ → Option Keyword
keyword_v cs =
    if bytes_eq cs (codes "oid") then Some key.Void
    else if bytes_eq cs (codes "olatile") then Some key.Volatile
    else None

-- after the letter w
abbrev pub keyword_w : List ℕ → Option Keyword
keyword_w cs =
    if bytes_eq cs (codes "hile") then Some key.While
    else None

abbrev pub keyword_by_letter : ℕ → List ℕ → Option Keyword
keyword_by_letter c cs =
    if c == 97 then keyword_a cs
    else if c == 98 then keyword_b cs
    else if c == 99 then keyword_c cs
    else if c == 100 then keyword_d cs
    else if c == 101 then keyword_e cs
    else if c == 102 then keyword_f cs
    else if c == 103 then keyword_g cs
    else if c == 105 then keyword_i cs
    else if c == 108 then keyword_l cs
    else if c == 114 then keyword_r cs
    else if c == 115 then keyword_s cs
    else if c == 116 then keyword_t cs
    else if c == 117 then keyword_u cs
    else if c == 118 then keyword_v cs
    else if c == 119 then keyword_w cs
    else None
