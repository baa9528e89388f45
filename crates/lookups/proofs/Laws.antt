-- Laws of the writers: texts that one call writes and the templates put together of several.
use Prim.Native.Nat.{ℕ}
use mathlib.Core.Bool.{Bool, true, false}
use mathlib.Core.Path.{◌≡◌, refl}
use mathlib.Core.List.{List}
use Rattle.text.specs.Text.{lit, pick, flat, ◌⊕◌}
use Rattle.text.specs.Buffer.{Wrote}
use Rattle.text.proofs.Laws.{same}

-- how a projected coordinate ends
zero_bytes : (three : Bool)
    → flat (pick three (lit " : float3(0.0))") (lit " : float2(0.0))")) ≡ flat (lit " : " ⊕ pick three (lit "float3(0.0)") (lit "float2(0.0)") ⊕ lit ")")
zero_bytes true = refl
zero_bytes false = refl

module _ {l l' : List ℕ} {a a' : ℕ} where
  pub zeroed : {three : Bool} → Wrote l a l' a' (pick three (lit " : float3(0.0))") (lit " : float2(0.0))"))
      → Wrote l a l' a' (lit " : " ⊕ pick three (lit "float3(0.0)") (lit "float2(0.0)") ⊕ lit ")")
  zeroed {three} w = same (zero_bytes three) w
