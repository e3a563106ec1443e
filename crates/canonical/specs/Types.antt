-- For `print` and `put_type`: types in canonical text.
use Rattle.std.specs.Prelude.{Bool, true, false, List, [], ◌∷◌, codes}
use Rattle.name_rules.specs.Spelled.{decimal}
use Rattle.type_table.specs.Tree.{Tree, int, ptr, void, array, struct, named, Trees, no_trees, more_trees}
use Rattle.canonical.specs.Phrase.{Phrase, word, mark, ◌␣◌, ◌⌢◌, listed, enclosed}
use Rattle.canonical.specs.Names.{named_local, natural}

-- braces round a list, up to what closes them: one space inside, but none where it is empty
abbrev pub braced : List Phrase → Phrase → Phrase
braced [] closing = mark (codes "{") ⌢ closing
braced (p ∷ ps) closing = mark (codes "{") ␣ listed (p ∷ ps) ␣ closing

-- in the brackets of a struct, packed or not
abbrev pub in_braces : Bool → List Phrase → Phrase
in_braces false ps = braced ps (mark (codes "}"))
in_braces true ps = mark (codes "<") ⌢ braced ps (mark (codes "}") ⌢ mark (codes ">"))

abbrev mutual
  -- a type
  pub type_phrase : Tree → Phrase
  type_phrase (int width) = word (105 ∷ decimal width)
  type_phrase ptr = word (codes "ptr")
  type_phrase void = word (codes "void")
  type_phrase (array count element) = enclosed (codes "[") (natural count ␣ word (codes "x") ␣ type_phrase element) (codes "]")
  type_phrase (struct packed fields) = in_braces packed (type_phrases fields)
  type_phrase (named name) = named_local name

  -- each of these types
  pub type_phrases : Trees → List Phrase
  type_phrases no_trees = []
  type_phrases (more_trees t ts) = type_phrase t ∷ type_phrases ts
