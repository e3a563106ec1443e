-- Says how the code reads: how the row of a word is found: its number, and the row with that number.
use Rattle.std.specs.Prelude.{ℕ, ◌+◌, ◌-◌, ◌*◌, ◌/◌, ◌%◌, List, length, map, get_or}
use Rattle.ir_terminals.specs.Words.{Meaning}
use Rattle.ir_terminals.specs.declared.words.TheConstants.{FIRST}
use Rattle.ir_terminals.specs.declared.words.Word.{Word}

-- what a row of the code says
abbrev pub meaning_of : Word → Meaning
meaning_of word = record { word = word.spelling.now; terminal = word.terminal }

-- what rows of the code say
abbrev pub meanings_of : List Word → List Meaning
meanings_of words = map meaning_of words

-- the number of a word, by its first byte, three others and how many they are
unfoldable pub slot : List ℕ → ℕ
slot word =
    let count = length word in
    (get_or FIRST (get_or word 0 0 % 32) 0 + 3 * get_or word (count / 3) 0 + 8 * get_or word (count / 2) 0 + get_or word (count - 1) 0 + 3 * (count % 256)) % 256
