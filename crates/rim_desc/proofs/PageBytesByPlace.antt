-- Which byte each one of an item's page is, and that they are 4096.
use Rattle.std.proofs.Common.{◌≡◌, ℕ, ◌<◌, List, length, get_or, arith}
use Rattle.std.proofs.lemmas.List.FromFn.{get_or-map-range_with_len, length-map-range_with_len}
use Rattle.rim_desc.specs.PageBytes.{page_byte, page_bytes}

-- byte j of page k
pub page_bytes-at : (lead k j : ℕ) (item : List ℕ) → j < 4096 → get_or (page_bytes lead item k) j 0 ≡ page_byte lead item k j
unfolding page_bytes
page_bytes-at lead k j item low = get_or-map-range_with_len (page_byte lead item k) 0 4096 j j 0 low (omega arith)

pub length-page_bytes : (lead k : ℕ) (item : List ℕ) → length (page_bytes lead item k) ≡ 4096
unfolding page_bytes
length-page_bytes lead k item = length-map-range_with_len (page_byte lead item k) 0 4096
