pub mod TextsOf
pub mod NamesApart
