-- What stands between tokens beside white space: comments and includes.
use Rattle.std.specs.Prelude.{ℕ, ◌==◌, nat_eq, ◌&&◌, if◌then◌else◌, Bool, false, List, [], ◌∷◌, ◌++◌, drop, length, codes, Option, Some, None}
use Rattle.std.specs.List.{list_any, list_all, prefix_len, position_or_len, starts_with}
use Rattle.porch_lex.specs.Characters.{is_blank, is_newline}
use Rattle.porch_lex.specs.Literals.{counted_more}

-- */ stands here
abbrev pub is_comment_end : List ℕ → Bool
is_comment_end [] = false
is_comment_end (c ∷ cs) = c == 42 && starts_with nat_eq cs (codes "/")

-- how many bytes there are up to the end of the first */
abbrev pub comment_length : List ℕ → Option ℕ
comment_length [] = None
comment_length (c ∷ cs) =
    if is_comment_end (c ∷ cs) then Some 2 else counted_more 1 (comment_length cs)

-- how many bytes there are up to the end of the line, its newline not counted
abbrev pub line_length : List ℕ → ℕ
line_length = position_or_len is_newline

-- in double quotes
abbrev pub quoted : List ℕ → List ℕ
quoted cs = 34 ∷ (cs ++ 34 ∷ [])

abbrev pub headers : List (List ℕ)
headers = codes "<stdio.h>" ∷ codes "<stdlib.h>" ∷ quoted (codes "porch.h") ∷ []

abbrev pub after_blanks : List ℕ → List ℕ
after_blanks cs = drop (prefix_len is_blank cs) cs

-- this header, and then only spaces and tabs
abbrev pub is_header_line : List ℕ → List ℕ → Bool
is_header_line cs header = starts_with nat_eq cs header && list_all is_blank (drop (length header) cs)

-- a line after its `#`: the word include and one of the headers, with spaces and tabs round both
abbrev pub is_include : List ℕ → Bool
is_include cs =
    starts_with nat_eq (after_blanks cs) (codes "include")
    && list_any (is_header_line (after_blanks (drop 7 (after_blanks cs)))) headers
