-- The pages of an item, over plain lists and numbers. DEN0137, RMI_DATA_CREATE measures whole pages of
-- 4096 bytes; that an item may begin inside a page, `lead` bytes after the page's first byte, and that
-- what it leaves of its first and last page is zero, is this project's choice.
use Rattle.std.specs.Prelude.{ℕ, ◌+◌, ◌-◌, ◌*◌, List, map, nat_lt, slice_index, if◌then◌else◌}
use Rattle.std.specs.List.{range_with_len}
use Rattle.rim_desc.specs.declared.page.TheConstants.{PAGE_SIZE}

-- byte j of page k is byte PAGE_SIZE * k + j - lead of the item, and zero where the item has no such byte
abbrev pub page_byte : ℕ → List ℕ → ℕ → ℕ → ℕ
page_byte lead item k j = if nat_lt (PAGE_SIZE * k + j) lead then 0 else slice_index item (PAGE_SIZE * k + j - lead)

-- page k, whole
unfoldable pub page_bytes : ℕ → List ℕ → ℕ → List ℕ
page_bytes lead item k = map (page_byte lead item k) (range_with_len 0 PAGE_SIZE)
