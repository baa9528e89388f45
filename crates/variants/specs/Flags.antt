-- The flags of a variant by their names in the code.
-- Only the contract of `has` cites this file. The definition of the text names the flags themselves, and does not rest on it.
use Rattle.std.specs.Prelude.{Bool}
use Rattle.values.specs.declared.Variant.{Variant}
use Rattle.shader.specs.Output.{flat_shade, srgb_write, sample_mask, point_sprite, lod_bias, fog_source_w}
use Rattle.variants.specs.declared.bits.Flag.{Flag}
use Rattle.variants.specs.declared.bits.Flag.TheVariants.{FlatShade, SrgbWrite, SampleMask, PointSprite, LodBias, FogSourceW}

abbrev pub has : Variant → Flag → Bool
has v FlatShade = flat_shade v
has v SrgbWrite = srgb_write v
has v SampleMask = sample_mask v
has v PointSprite = point_sprite v
has v LodBias = lod_bias v
has v FogSourceW = fog_source_w v
