pub mod Origins
pub mod UnderWay
pub mod Pool
