-- Lists of which each element is so.
use Rattle.std.proofs.Common.{List, [], ◌∷◌, All}
use Rattle.std.proofs.lemmas.List.Elements.{All-nil, All-cons}
use Rattle.ir_phrases.specs.Constants.Forms.{AllAre}

-- in the words of `std`
pub all_of : {A : Type 0} (P : A → Type 0) (xs : List A) → AllAre P xs → All P xs
all_of P [] h = All-nil P
all_of P (x ∷ xs) h = All-cons P x xs h.0 (all_of P xs h.1)
