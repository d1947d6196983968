-- The digests of a page of zeros, which the checker computes.
use Rattle.std.proofs.Common.{◌≡◌, refl, replicate, [], ◌∷◌}
use Rattle.sha2.specs.Sha256 as narrow
use Rattle.sha2.specs.Sha512 as wide

pub sha256-of-zeros : narrow.sha256 (replicate 4096 0) ≡
    173 ∷ 127 ∷ 172 ∷ 178 ∷ 88 ∷ 111 ∷ 198 ∷ 233 ∷ 102 ∷ 192 ∷ 4 ∷ 215 ∷ 209 ∷ 209 ∷ 107 ∷ 2 ∷
    79 ∷ 88 ∷ 5 ∷ 255 ∷ 124 ∷ 180 ∷ 124 ∷ 122 ∷ 133 ∷ 218 ∷ 189 ∷ 139 ∷ 72 ∷ 137 ∷ 44 ∷ 167 ∷ []
unfolding narrow.sha256 narrow.hash_after narrow.digest_bytes narrow.compress narrow.rounds narrow.schedule narrow.first_words
sha256-of-zeros = refl

pub sha512-of-zeros : wide.sha512 (replicate 4096 0) ≡
    45 ∷ 35 ∷ 145 ∷ 61 ∷ 55 ∷ 89 ∷ 239 ∷ 1 ∷ 112 ∷ 74 ∷ 134 ∷ 180 ∷ 190 ∷ 227 ∷ 172 ∷ 138 ∷
    41 ∷ 0 ∷ 35 ∷ 19 ∷ 236 ∷ 201 ∷ 138 ∷ 116 ∷ 36 ∷ 66 ∷ 90 ∷ 120 ∷ 23 ∷ 15 ∷ 33 ∷ 149 ∷
    119 ∷ 130 ∷ 47 ∷ 215 ∷ 126 ∷ 74 ∷ 233 ∷ 99 ∷ 19 ∷ 84 ∷ 118 ∷ 150 ∷ 173 ∷ 125 ∷ 89 ∷ 73 ∷
    181 ∷ 142 ∷ 18 ∷ 213 ∷ 6 ∷ 62 ∷ 242 ∷ 238 ∷ 6 ∷ 59 ∷ 89 ∷ 87 ∷ 64 ∷ 163 ∷ 161 ∷ 45 ∷ []
unfolding wide.sha512 wide.hash_after wide.digest_bytes wide.compress wide.rounds wide.schedule wide.first_words
sha512-of-zeros = refl
