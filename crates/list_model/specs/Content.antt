-- What is measured of a page, by what is known of its content. DEN0137, RMI_DATA_CREATE and RMI_DATA_CREATE_UNKNOWN.
use Rattle.std.specs.Prelude.{Bool, true, false}
use Rattle.list_model.specs.declared.content.PageContent.{PageContent}
use Rattle.list_model.specs.declared.content.PageContent.TheVariants.{Measured, Unmeasured, Unknown}

-- whether its bytes are
abbrev pub is_measured : PageContent → Bool
is_measured Measured = true
is_measured Unmeasured = false
is_measured Unknown = false
