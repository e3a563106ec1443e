-- For `set_new_ids`: what is told of a copier but for the new ids of entries.
use Rattle.std.specs.Prelude.{[]}
use Rattle.entry_copy.specs.Tables.{Tables, with_entries}

-- the new ids of structs, types and constants alone
abbrev pub without_entries : Tables → Tables
without_entries t = with_entries t [] [] []
