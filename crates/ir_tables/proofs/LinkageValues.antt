-- Every value of `Linkage` stands in the list of its table, which is looked up by its words and by its codes.
use Rattle.std.proofs.Common.{refl, bytes_eq, nat_eq}
use Rattle.ir_tables.specs.declared.linkage.Linkage.TheVariants.{External, Private, Internal, AvailableExternally, Linkonce, LinkonceOdr, Weak, WeakOdr, Common, Appending, ExternWeak}
use Rattle.ir_tables.specs.Linkage.{linkage_word, linkage_code, linkages}
use Rattle.ir_tables.proofs.Tables.{IsListed, IsKeyed, keyed_by_word, keyed_by_code}

pub linkage_listed : IsListed linkages
linkage_listed External = (0, refl)
linkage_listed Private = (1, refl)
linkage_listed Internal = (2, refl)
linkage_listed AvailableExternally = (3, refl)
linkage_listed Linkonce = (4, refl)
linkage_listed LinkonceOdr = (5, refl)
linkage_listed Weak = (6, refl)
linkage_listed WeakOdr = (7, refl)
linkage_listed Common = (8, refl)
linkage_listed Appending = (9, refl)
linkage_listed ExternWeak = (10, refl)

pub linkage_words : IsKeyed bytes_eq linkage_word linkages
linkage_words = keyed_by_word linkage_word linkages linkage_listed

pub linkage_codes : IsKeyed nat_eq linkage_code linkages
linkage_codes = keyed_by_code linkage_code linkages linkage_listed
