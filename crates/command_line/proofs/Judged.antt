-- The scan from the left finds the first fault, or all roles.
use Rattle.std.proofs.Common.{◌≡◌, ◌⊎◌, inl, inr, ℕ, ◌+◌, ◌<◌, ◌≤◌, Bool, true, false, cond, ◌&&◌, IsTrue, List, [], ◌∷◌, ◌++◌, length, Option, Some, None, Result, Ok, Err, refl, ap, sym, arith}
use Rattle.command_line.specs.declared.command.UsageKind.{UsageKind}
use Rattle.command_line.specs.declared.command.UsageKind.TheVariants.{NoTool, UnknownOption, MissingValue, BadNumber, Repeated, TooManyFiles, NoFile}
use Rattle.command_line.specs.declared.tool.Tool.{Tool}
use Rattle.command_line.specs.Roles.{Role, role, roles_onto, others, is_empty}
use Rattle.command_line.specs.Kinds.{rank}
use Rattle.command_line.specs.Tools.{needs_file}
use Rattle.command_line.specs.Faults.{is_wrong, is_unknown, lacks_value, has_bad_number, is_repeated, is_surplus}
use Rattle.command_line.specs.Reading.{Wrong, first_kind, scan_by, scan}

-- faults of words that stand behind others of these roles
pub record WordFaultFrom (tool : Tool) (before : List Role) (words : List (List ℕ)) (kind : UsageKind) (k : ℕ) : Type 0 where
  pub front : List (List ℕ)
  pub word : List ℕ
  pub behind : List (List ℕ)
  pub whole : words ≡ front ++ word ∷ behind
  pub place : k ≡ 1 + length before + length front
  pub wrong : IsTrue (is_wrong tool (roles_onto tool before front) (role tool (roles_onto tool before front) word) behind kind)

pub record EndFaultFrom (tool : Tool) (before : List Role) (words : List (List ℕ)) (kind : UsageKind) (k : ℕ) : Type 0 where
  pub none : kind ≡ NoFile
  pub place : k ≡ 1 + length before + length words
  pub wrong : IsTrue (needs_file tool && is_empty (others (roles_onto tool before words)))

abbrev pub FaultFrom : Tool → List Role → List (List ℕ) → UsageKind → ℕ → Type 0
FaultFrom tool before words kind k = WordFaultFrom tool before words kind k ⊎ EndFaultFrom tool before words kind k

abbrev pub IsBefore : UsageKind → ℕ → UsageKind → ℕ → Type 0
IsBefore kind k other at = (k < at) ⊎ ((k ≡ at) × (rank kind ≤ rank other))

abbrev pub Judged : Tool → List Role → List (List ℕ) → Result (List Role) Wrong → Type 0
Judged tool before words (Ok all) = (all ≡ roles_onto tool before words) × ((kind : UsageKind) (k : ℕ) → FaultFrom tool before words kind k → ⊥)
Judged tool before words (Err (kind, k)) = FaultFrom tool before words kind k × ((other : UsageKind) (at : ℕ) → FaultFrom tool before words other at → IsBefore kind k other at)

-- The first kind of a word.

-- five tests in the order of the kinds
abbrev test_of : Bool → Bool → Bool → Bool → Bool → UsageKind → Bool
test_of a b c d e NoTool = false
test_of a b c d e UnknownOption = a
test_of a b c d e MissingValue = b
test_of a b c d e BadNumber = c
test_of a b c d e Repeated = d
test_of a b c d e TooManyFiles = e
test_of a b c d e NoFile = false

abbrev first_of_five : Bool → Bool → Bool → Bool → Bool → Option UsageKind
first_of_five a b c d e = cond a (Some UnknownOption) (cond b (Some MissingValue) (cond c (Some BadNumber) (cond d (Some Repeated) (cond e (Some TooManyFiles) None))))

abbrev FirstTest : (UsageKind → Bool) → Option UsageKind → Type 0
FirstTest test None = (other : UsageKind) → IsTrue (test other) → ⊥
FirstTest test (Some kind) = IsTrue (test kind) × ((other : UsageKind) → IsTrue (test other) → rank kind ≤ rank other)

five_first : (a b c d e : Bool) → FirstTest (test_of a b c d e) (first_of_five a b c d e)
five_first true b c d e = (refl, elim [ NoTool ↦ λ h. cc | UnknownOption ↦ λ h. omega arith | MissingValue ↦ λ h. omega arith | BadNumber ↦ λ h. omega arith | Repeated ↦ λ h. omega arith | TooManyFiles ↦ λ h. omega arith | NoFile ↦ λ h. omega arith ])
five_first false true c d e = (refl, elim [ NoTool ↦ λ h. cc | UnknownOption ↦ λ h. cc | MissingValue ↦ λ h. omega arith | BadNumber ↦ λ h. omega arith | Repeated ↦ λ h. omega arith | TooManyFiles ↦ λ h. omega arith | NoFile ↦ λ h. omega arith ])
five_first false false true d e = (refl, elim [ NoTool ↦ λ h. cc | UnknownOption ↦ λ h. cc | MissingValue ↦ λ h. cc | BadNumber ↦ λ h. omega arith | Repeated ↦ λ h. omega arith | TooManyFiles ↦ λ h. omega arith | NoFile ↦ λ h. omega arith ])
five_first false false false true e = (refl, elim [ NoTool ↦ λ h. cc | UnknownOption ↦ λ h. cc | MissingValue ↦ λ h. cc | BadNumber ↦ λ h. cc | Repeated ↦ λ h. omega arith | TooManyFiles ↦ λ h. omega arith | NoFile ↦ λ h. omega arith ])
five_first false false false false true = (refl, elim [ NoTool ↦ λ h. cc | UnknownOption ↦ λ h. cc | MissingValue ↦ λ h. cc | BadNumber ↦ λ h. cc | Repeated ↦ λ h. cc | TooManyFiles ↦ λ h. omega arith | NoFile ↦ λ h. omega arith ])
five_first false false false false false = elim [ NoTool ↦ λ h. cc | UnknownOption ↦ λ h. cc | MissingValue ↦ λ h. cc | BadNumber ↦ λ h. cc | Repeated ↦ λ h. cc | TooManyFiles ↦ λ h. cc | NoFile ↦ λ h. cc ]

FirstTest-along : (test other : UsageKind → Bool) → ((kind : UsageKind) → other kind ≡ test kind) → (found : Option UsageKind) → FirstTest test found → FirstTest other found
FirstTest-along test other same None h = λ kind yes. h kind (rw (same kind) at yes)
FirstTest-along test other same (Some kind) h = (rw (same kind) h.0, λ k yes. h.1 k (rw (same k) at yes))

pub first_test : (tool : Tool) (before : List Role) (r : Role) (behind : List (List ℕ)) → FirstTest (is_wrong tool before r behind) (first_kind tool before r behind)
first_test tool before r behind =
    FirstTest-along (test_of (is_unknown r) (lacks_value r behind) (has_bad_number r) (is_repeated before r) (is_surplus tool before r)) (is_wrong tool before r behind)
    (elim [ NoTool ↦ refl | UnknownOption ↦ refl | MissingValue ↦ refl | BadNumber ↦ refl | Repeated ↦ refl | TooManyFiles ↦ refl | NoFile ↦ refl ])
    _ (five_first (is_unknown r) (lacks_value r behind) (has_bad_number r) (is_repeated before r) (is_surplus tool before r))

-- A word more in front.

later_fault : (tool : Tool) (before : List Role) (word : List ℕ) (words : List (List ℕ)) (kind : UsageKind) (k : ℕ) → FaultFrom tool (role tool before word ∷ before) words kind k → FaultFrom tool before (word ∷ words) kind k
later_fault tool before word words kind k (inl f) = inl (record { front = word ∷ f.front; word = f.word; behind = f.behind; whole = ap (λ ws. word ∷ ws) f.whole; place = let h = f.place in omega arith; wrong = f.wrong })
later_fault tool before word words kind k (inr f) = inr (record { none = f.none; place = let h = f.place in omega arith; wrong = f.wrong })

-- a fault is of the first word or behind it
abbrev Split : Tool → List Role → List ℕ → List (List ℕ) → UsageKind → ℕ → Type 0
Split tool before word words kind k = ((k ≡ 1 + length before) × IsTrue (is_wrong tool before (role tool before word) words kind)) ⊎ ((1 + length before < k) × FaultFrom tool (role tool before word ∷ before) words kind k)

split_front : (tool : Tool) (before : List Role) (word : List ℕ) (words : List (List ℕ)) (kind : UsageKind) (k : ℕ) (front : List (List ℕ)) (w : List ℕ) (behind : List (List ℕ)) → word ∷ words ≡ front ++ w ∷ behind → k ≡ 1 + length before + length front → IsTrue (is_wrong tool (roles_onto tool before front) (role tool (roles_onto tool before front) w) behind kind) → Split tool before word words kind k
split_front tool before word words kind k [] w behind e p wrong =
    let same_word : word ≡ w = cc in
    let same_words : words ≡ behind = cc in
    inl (omega arith, rw (same_word, same_words) wrong)
split_front tool before word words kind k (f ∷ front) w behind e p wrong =
    let same_word : f ≡ word = cc in
    let same_words : words ≡ front ++ w ∷ behind = cc in
    inr (omega arith, inl (record { front = front; word = w; behind = behind; whole = same_words; place = omega arith; wrong = rw same_word at wrong }))

split_fault : (tool : Tool) (before : List Role) (word : List ℕ) (words : List (List ℕ)) (kind : UsageKind) (k : ℕ) → FaultFrom tool before (word ∷ words) kind k → Split tool before word words kind k
split_fault tool before word words kind k (inl f) = split_front tool before word words kind k f.front f.word f.behind f.whole f.place f.wrong
split_fault tool before word words kind k (inr f) = let h = f.place in inr (omega arith, inr (record { none = f.none; place = omega arith; wrong = f.wrong }))

later_before : (tool : Tool) (before : List Role) (word : List ℕ) (words : List (List ℕ)) (kind : UsageKind) (k : ℕ) (other : UsageKind) (at : ℕ) → (IsTrue (is_wrong tool before (role tool before word) words other) → ⊥) → (FaultFrom tool (role tool before word ∷ before) words other at → IsBefore kind k other at) → Split tool before word words other at → IsBefore kind k other at
later_before tool before word words kind k other at none h (inl here) = absurd (none here.1)
later_before tool before word words kind k other at none h (inr there) = h there.1

never_before : (tool : Tool) (before : List Role) (word : List ℕ) (words : List (List ℕ)) (other : UsageKind) (at : ℕ) → (IsTrue (is_wrong tool before (role tool before word) words other) → ⊥) → (FaultFrom tool (role tool before word ∷ before) words other at → ⊥) → Split tool before word words other at → ⊥
never_before tool before word words other at none h (inl here) = none here.1
never_before tool before word words other at none h (inr there) = h there.1

later_judged : (tool : Tool) (before : List Role) (word : List ℕ) (words : List (List ℕ)) → ((other : UsageKind) → IsTrue (is_wrong tool before (role tool before word) words other) → ⊥) → (found : Result (List Role) Wrong) → Judged tool (role tool before word ∷ before) words found → Judged tool before (word ∷ words) found
later_judged tool before word words none (Ok all) h = (h.0, λ other at f. never_before tool before word words other at (none other) (h.1 other at) (split_fault tool before word words other at f))
later_judged tool before word words none (Err (kind, k)) h =
    (later_fault tool before word words kind k h.0, λ other at f. later_before tool before word words kind k other at (none other) (h.1 other at) (split_fault tool before word words other at f))

here_before : (tool : Tool) (before : List Role) (word : List ℕ) (words : List (List ℕ)) (kind other : UsageKind) (at : ℕ) → (IsTrue (is_wrong tool before (role tool before word) words other) → rank kind ≤ rank other) → Split tool before word words other at → IsBefore kind (1 + length before) other at
here_before tool before word words kind other at least (inl here) = inr (sym here.0, least here.1)
here_before tool before word words kind other at least (inr there) = inl there.0

judged_by : (tool : Tool) (before : List Role) (word : List ℕ) (words : List (List ℕ)) (found : Option UsageKind) → FirstTest (is_wrong tool before (role tool before word) words) found → (rest : Result (List Role) Wrong) → Judged tool (role tool before word ∷ before) words rest → Judged tool before (word ∷ words) (scan_by found (1 + length before) rest)
judged_by tool before word words None none rest h = later_judged tool before word words none rest h
judged_by tool before word words (Some kind) first rest h =
    (inl (record { front = []; word = word; behind = words; whole = refl; place = omega arith; wrong = first.0 }), λ other at f. here_before tool before word words kind other at (first.1 other) (split_fault tool before word words other at f))

end_only : (tool : Tool) (before : List Role) (other : UsageKind) (at : ℕ) → FaultFrom tool before [] other at → EndFaultFrom tool before [] other at
end_only tool before other at (inl f) = nowhere f.front f.word f.behind f.whole where
  nowhere : (front : List (List ℕ)) (w : List ℕ) (behind : List (List ℕ)) → [] ≡ front ++ w ∷ behind → EndFaultFrom tool before [] other at
  nowhere [] w behind e = cc
  nowhere (f ∷ front) w behind e = cc
end_only tool before other at (inr f) = f

judged_end : (tool : Tool) (before : List Role) (b : Bool) → (needs_file tool && is_empty (others before)) ≡ b → Judged tool before [] (cond b (Err (NoFile, 1 + length before)) (Ok before))
judged_end tool before true e =
    (inr (record { none = refl; place = omega arith; wrong = e }), λ other at f. let h = end_only tool before other at f in let p = h.place in inr (omega arith, rw h.none (omega arith)))
judged_end tool before false e = (refl, λ other at f. let h = end_only tool before other at f in let w = h.wrong in cc)

-- what the scan finds is the first fault, or all roles where there is none
pub judged : (tool : Tool) (words : List (List ℕ)) (before : List Role) → Judged tool before words (scan tool before words)
unfolding scan
judged tool [] before = judged_end tool before _ refl
judged tool (word ∷ words) before =
    judged_by tool before word words _ (first_test tool before (role tool before word) words) _ (judged tool words (role tool before word ∷ before))
