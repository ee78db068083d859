pub mod Names
pub mod Grammar
pub mod NameReaders
pub mod TypeReaders
pub mod PatternReaders
pub mod SideReaders
pub mod SigReaders
pub mod Whole
