pub mod DtbEditViews
pub mod LayoutViews
