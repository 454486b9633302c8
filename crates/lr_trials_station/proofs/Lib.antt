mod CutSources
