-- For `read_file` and `write_file` of `Files`: files by name, and what a call does to them where they are told.
use Rattle.std.specs.Prelude.{◌≡◌, ◌⊎◌, ℕ, ◌<◌, List, length, take, Option, Some, None, IfSome, IsSomeAnd, option_map, if◌then◌else◌, bytes_eq}

-- what is in each file, by its name
abbrev pub Named : Type 0
Named = List ℕ → Option (List ℕ)

-- the file of this name has these bytes, where that is told
abbrev pub ReadsFrom : Option Named → List ℕ → List ℕ → Type 0
ReadsFrom told name bytes = IfSome told (λ files. files name ≡ Some bytes)

-- it is told that there is no file of this name
abbrev pub IsMissing : Option Named → List ℕ → Type 0
IsMissing told name = IsSomeAnd told (λ files. files name ≡ None)

-- the file of this name has more bytes than the limit
abbrev pub IsOver : ℕ → Named → List ℕ → Type 0
IsOver limit files name = IsSomeAnd (files name) (λ bytes. limit < length bytes)

-- the same files, but for these bytes under this name
abbrev pub with_file : Named → List ℕ → List ℕ → Named
with_file files name bytes other = if bytes_eq name other then Some bytes else files other

-- the file of this name got these bytes, and every other stays
abbrev pub Holds : Option Named → Option Named → List ℕ → List ℕ → Type 0
Holds before now name bytes = now ≡ option_map (λ files. with_file files name bytes) before

-- the file of this name has a front of these bytes, or what it had before, and every other stays
abbrev pub HoldsFront : Option Named → Option Named → List ℕ → List ℕ → Type 0
HoldsFront before now name bytes = (now ≡ before) ⊎ ((count : ℕ) × Holds before now name (take count bytes))
