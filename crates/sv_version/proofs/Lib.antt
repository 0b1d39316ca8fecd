mod Released
mod SoundFiles
