-- The loop over the active stages' parameters: what is still to be written, written, makes the whole.
use Prim.Native.Nat.{ℕ, ◌+◌, ◌<◌, ◌≤◌}
use mathlib.Core.List.{List}
use native.Mathlib.Numerals.{add-one}
use lib.ListN.{length, drop, get_or, drop_of_length-le}
use lib.Seq.{drop-cons}
use Rattle.text.specs.Text.{when, ◌⊕◌}
use Rattle.text.specs.Buffer.{Wrote}
use Rattle.text.proofs.Laws.{◌⨾◌, nothing}
use Rattle.cascade.specs.Keys.{textured}
use Rattle.values.specs.declared.Stage.{Stage}
use Rattle.shader.specs.Whole.{texture_parameter, sampler_parameter, samplers_text}
use Rattle.values.specs.declared.Variant.{Variant}

module _ (v : Variant) (l : List Stage) where
  -- the texture and sampler parameters from stage i on, written, make all of them
  abbrev pub SamplersFrom : List ℕ → ℕ → List ℕ → ℕ → ℕ → Type 0
  SamplersFrom out₀ at out p i =
      (out' : List ℕ) (p' : ℕ) → Wrote out p out' p' (samplers_text v i (drop i l)) → Wrote out₀ at out' p' (samplers_text v 0 l)

  pub samplers_turn : {out₀ out out₁ : List ℕ} {at p p₁ : ℕ} (i : ℕ) (d : Stage) → i < length l → SamplersFrom out₀ at out p i
      → Wrote out p out₁ p₁ (when (textured (get_or l i d)) (texture_parameter v i ⊕ sampler_parameter i)) → SamplersFrom out₀ at out₁ p₁ (i + 1)
  unfolding samplers_text
  samplers_turn i d h inv w out' p' x = inv out' p' (rw (drop-cons l i d h) (w ⨾ rw add-one at x))

  pub samplers_end : {out₀ out : List ℕ} {at p : ℕ} (i : ℕ) → length l ≤ i → SamplersFrom out₀ at out p i
      → Wrote out₀ at out p (samplers_text v 0 l)
  unfolding samplers_text
  samplers_end {out = out} {p = p} i h inv = inv out p (rw (drop_of_length-le l h) (nothing out p))
