-- A text without its comments and includes, token by token.
use Rattle.std.proofs.Common.{◌≡◌, ℕ, List, [], ◌∷◌, ◌++◌, drop, sym, ap, ◌∙◌, append_assoc}
use Rattle.porch_lex.specs.declared.token.Token.{Token}
use Rattle.porch_lex.specs.Words.{bytes_between}
use Rattle.porch_source.specs.Comments.{blanks, without_comments, without_comments_from}

-- So far a text is this, and from a place on these tokens are left.
pub record Cleans (text : List ℕ) (ts : List Token) (done : List ℕ) (at : ℕ) (rest : List Token) : Type 0 where
  pub is : done ++ without_comments_from at text rest ≡ without_comments text ts

pub cleans_on : (text : List ℕ) (ts rest us : List Token) (t : Token) (done spaced more : List ℕ) (at : ℕ)
    → Cleans text ts done at rest → rest ≡ t ∷ us
    → spaced ≡ done ++ blanks (bytes_between text at t.from) → more ≡ spaced ++ bytes_between text t.from t.to
    → Cleans text ts more t.to us
cleans_on text ts rest us t done spaced more at c e f g = record {
  is =
      let all : List ℕ → List ℕ = λ x. x ++ without_comments_from t.to text us in
      ap all g ∙ ap (λ x. all (x ++ bytes_between text t.from t.to)) f
      ∙ append_assoc (done ++ blanks (bytes_between text at t.from)) (bytes_between text t.from t.to) (without_comments_from t.to text us)
      ∙ append_assoc done (blanks (bytes_between text at t.from)) (bytes_between text t.from t.to ++ without_comments_from t.to text us)
      ∙ sym (ap (λ x. done ++ without_comments_from at text x) e)
      ∙ c.is;
}

pub cleans_all : (text : List ℕ) (ts rest : List Token) (done more : List ℕ) (at : ℕ)
    → Cleans text ts done at rest → rest ≡ [] → more ≡ done ++ blanks (drop at text) → more ≡ without_comments text ts
cleans_all text ts rest done more at c e f =
    f ∙ sym (ap (λ x. done ++ without_comments_from at text x) e) ∙ c.is
