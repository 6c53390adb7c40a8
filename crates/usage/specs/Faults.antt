-- The number of the refusal of a page.
use Rattle.std.specs.Prelude.{ℕ, List, ◌++◌, codes}
use Rattle.std.specs.Fmt.{decimal}
use Rattle.usage.specs.declared.fault.PageFault.{PageFault}
use Rattle.usage.specs.declared.fault.PageFault.TheVariants.{Room}

abbrev pub page_number : PageFault → ℕ
page_number Room = 26

-- how it is written
abbrev pub page_text : PageFault → List ℕ
page_text e = codes "number " ++ decimal (page_number e)
