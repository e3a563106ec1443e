-- For `next_due`: the function whose body is the next.
use Rattle.std.specs.Prelude.{ℕ, zero, suc, Bool, true, false, List, [], ◌∷◌, Option, Some, None}

-- the number of the first function that is defined and has no body, where so many bodies came and the first function has that number
abbrev pub due_at : List Bool → ℕ → ℕ → Option ℕ
due_at [] came number = None
due_at (false ∷ defined) came number = due_at defined came (suc number)
due_at (true ∷ defined) zero number = Some number
due_at (true ∷ defined) (suc came) number = due_at defined came (suc number)
