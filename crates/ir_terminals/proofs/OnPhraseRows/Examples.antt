-- Small rows over numbers, each number its own class: what they read, and what is first bad.
use Rattle.std.proofs.Common.{◌≡◌, ◌+◌, ◌-◌, ℕ, List, [], ◌∷◌, Bool, true, false, ◌==◌, cond, inl, inr, refl, Some, None, Ok, Err}
use Rattle.ir_terminals.specs.PhraseRows.Row.{Row, one, keep_second, keep_first, separated, loop, TokenMove, On, Ends, Stops, machine}
use Rattle.ir_terminals.specs.PhraseRows.Reads.{Reads}
use Rattle.ir_terminals.specs.PhraseRows.Answer.{IsFirstBad, answer}
use Rattle.ir_terminals.proofs.OnPhraseRows.Plain.{reads_one}
use Rattle.ir_terminals.proofs.OnPhraseRows.Chain.{reads_second, reads_before}
use Rattle.ir_terminals.proofs.OnPhraseRows.Repeated.{reads_separated}
use Rattle.ir_terminals.proofs.OnPhraseRows.Loop.{reads_loop}
use Rattle.ir_terminals.proofs.OnPhraseRows.Machine.{reads_machine}
use Rattle.ir_terminals.proofs.OnPhraseRows.Rules.{row_rules}
use Rattle.ir_terminals.proofs.OnPhraseRows.Answer.{answered}

abbrev class : ℕ → ℕ
class t = t

abbrev word : ℕ → Row ℕ ℕ
word k = one class (k ∷ []) (λ t. Some t)

-- 3 or 4
abbrev digit : Row ℕ ℕ
digit = one class (3 ∷ 4 ∷ []) (λ t. Some t)

-- 0 digits with a 2 between each two, and then 1
abbrev digits : Row ℕ (List ℕ)
digits = keep_second (word 0) (keep_first (separated class (word 2) digit) (word 1))

reads_digits : Reads class digits digits.shape
reads_digits = reads_second class (reads_one class (0 ∷ []) _) (reads_before class (reads_separated class (reads_one class (2 ∷ []) _) (reads_one class (3 ∷ 4 ∷ []) _) refl refl refl refl) (reads_one class (1 ∷ []) _) refl) refl

searched : Reads class digits digits.shape
searched = search row_rules depth 12

none : answer digits true (0 ∷ 1 ∷ []) ≡ Ok []
none = refl

two : answer digits true (0 ∷ 3 ∷ 2 ∷ 4 ∷ 1 ∷ []) ≡ Ok (3 ∷ 4 ∷ [])
two = refl

-- something stands behind
not_ended : answer digits false (0 ∷ 3 ∷ 1 ∷ []) ≡ Err 3
not_ended = refl

too_short : answer digits true (0 ∷ 3 ∷ 2 ∷ []) ≡ Err 3
too_short = refl

no_separator : answer digits true (0 ∷ 3 ∷ 4 ∷ 1 ∷ []) ≡ Err 2
no_separator = refl

too_long : answer digits true (0 ∷ 1 ∷ 1 ∷ []) ≡ Err 2
too_long = refl

nothing_begins : answer digits true (1 ∷ []) ≡ Err 0
nothing_begins = refl

no_token : answer digits true [] ≡ Err 0
no_token = refl

-- the definitions say the same of them
one_is_whole : digits.whole (0 ∷ 3 ∷ 1 ∷ []) (3 ∷ [])
one_is_whole = (
  0 ∷ [],
  3 ∷ 1 ∷ [],
  0,
  refl,
  (0, refl, refl, refl),
  (3 ∷ [], 1 ∷ [], 3 ∷ [], refl, inl (3 ∷ [], [], 3, refl, (3, refl, refl, refl), ([], refl, refl)), (1, (1, refl, refl, refl), refl)),
)

one_is_cut : digits.cut (0 ∷ 3 ∷ [])
one_is_cut = inr (0 ∷ [], 3 ∷ [], 0, refl, (0, refl, refl, refl), inr (3 ∷ [], [], 3 ∷ [], refl, inl (3 ∷ [], [], 3, refl, (3, refl, refl, refl), ([], refl, refl)), refl))

second_is_bad : IsFirstBad digits true (0 ∷ 3 ∷ 4 ∷ 1 ∷ []) 2
second_is_bad = answered class digits digits.shape reads_digits true (0 ∷ 3 ∷ 4 ∷ 1 ∷ [])

end_is_bad : IsFirstBad digits false (0 ∷ 3 ∷ 1 ∷ []) 3
end_is_bad = answered class digits digits.shape reads_digits false (0 ∷ 3 ∷ 1 ∷ [])

-- 5s and 6s, no two equal ones side by side: the state is the last one
abbrev other_than : ℕ → Row ℕ ℕ
other_than s = one class (5 ∷ 6 ∷ []) (λ t. cond (t == s) None (Some t))

abbrev turns : ℕ → Row ℕ ℕ
turns = loop class (record { first = 5 ∷ 6 ∷ []; more = []; empty = false }) other_than

reads_turns : (s : ℕ) → Reads class (turns s) (turns s).shape
reads_turns s = reads_loop class (λ m. reads_one class (5 ∷ 6 ∷ []) (λ t. cond (t == m) None (Some t))) refl refl s

no_turn : answer (turns 0) true [] ≡ Ok 0
no_turn = refl

three_turns : answer (turns 0) true (5 ∷ 6 ∷ 5 ∷ []) ≡ Ok 5
three_turns = refl

no_second_turn : answer (turns 0) true (5 ∷ 6 ∷ 6 ∷ []) ≡ Err 2
no_second_turn = refl

two_turns_are_whole : (turns 0).whole (5 ∷ 6 ∷ []) 6
two_turns_are_whole = (5 ∷ 6 ∷ [], (5 ∷ [], 6 ∷ [], refl, (5, refl, refl, refl), (6 ∷ [], [], refl, (6, refl, refl, refl), (refl, refl))))

-- 0s and as many 1s, each 1 behind its 0: the state is how many 0s wait
abbrev nested_step : ℕ → ℕ → TokenMove ℕ ℕ
nested_step s t = cond (t == 0) (On (s + 1)) (cond (t == 1) (cond (s == 0) Stops (cond (s == 1) (Ends t) (On (s - 1)))) Stops)

abbrev nested : Row ℕ ℕ
nested = machine (0 ∷ []) nested_step 0

zero_or_not : (a b : Bool) (x : TokenMove ℕ ℕ) → cond a true false ≡ false → cond a x (cond b Stops Stops) ≡ Stops
zero_or_not true b x e = absurd cc
zero_or_not false true x e = refl
zero_or_not false false x e = refl

reads_nested : Reads class nested nested.shape
reads_nested = reads_machine class (0 ∷ []) nested_step 0 (λ t e. zero_or_not (t == 0) (t == 1) (On 1) e)

two_deep : answer nested true (0 ∷ 0 ∷ 1 ∷ 1 ∷ []) ≡ Ok 1
two_deep = refl

one_waits : answer nested true (0 ∷ 0 ∷ 1 ∷ []) ≡ Err 3
one_waits = refl

no_part : answer nested true (0 ∷ 5 ∷ 1 ∷ []) ≡ Err 1
no_part = refl

behind_its_end : answer nested true (0 ∷ 1 ∷ 1 ∷ []) ≡ Err 2
behind_its_end = refl

deep_is_whole : nested.whole (0 ∷ 0 ∷ 1 ∷ 1 ∷ []) 1
deep_is_whole = (refl, refl)
